use Rattle.token_laws.proofs.Reading.{one_list}
use Rattle.token_laws.proofs.one_token_list.Goals as goal

pub returns : goal.returns
returns c = one_list
