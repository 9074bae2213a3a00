use Rattle.tree_laws.proofs.Whole.{body_whole, declarations_whole}
use Rattle.tree_laws.proofs.trees_are_whole.Goals as goal

pub returns-clause-body : goal.returns-clause-body
returns-clause-body c = body_whole

pub returns-clause-declarations : goal.returns-clause-declarations
returns-clause-declarations c = declarations_whole
