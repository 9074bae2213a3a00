use Rattle.token_laws.proofs.Reading.{not_both}
use Rattle.token_laws.proofs.tokens_or_refusal.Goals as goal

pub returns : goal.returns
returns c = not_both
