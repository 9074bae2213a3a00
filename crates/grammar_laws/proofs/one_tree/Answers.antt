use Rattle.grammar_laws.proofs.Trees.{unique_tree}
use Rattle.grammar_laws.proofs.one_tree.Goals as goal

pub returns : goal.returns
returns c = unique_tree
