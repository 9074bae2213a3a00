use Rattle.token_laws.proofs.Reading.{one_refusal}
use Rattle.token_laws.proofs.one_lex_refusal.Goals as goal

pub returns : goal.returns
returns c = one_refusal
