use Rattle.command_words.proofs.Whole.{one_request}
use Rattle.command_words.proofs.laws.one_form.Goals as goal

pub returns : goal.returns
returns c = one_request
