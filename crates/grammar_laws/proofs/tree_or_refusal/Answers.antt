use Rattle.grammar_laws.proofs.Faults.{not_both}
use Rattle.grammar_laws.proofs.tree_or_refusal.Goals as goal

pub returns : goal.returns
returns c = not_both
