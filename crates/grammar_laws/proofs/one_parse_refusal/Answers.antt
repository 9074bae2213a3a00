use Rattle.grammar_laws.proofs.Faults.{one_refusal}
use Rattle.grammar_laws.proofs.one_parse_refusal.Goals as goal

pub returns : goal.returns
returns c = one_refusal
