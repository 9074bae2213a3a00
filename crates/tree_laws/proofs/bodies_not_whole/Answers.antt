use Rattle.tree_laws.proofs.Examples.{digit_no_name, one_place}
use Rattle.tree_laws.proofs.bodies_not_whole.Goals as goal

pub returns-clause-name : goal.returns-clause-name
returns-clause-name c = digit_no_name

pub returns-clause-reference : goal.returns-clause-reference
returns-clause-reference c = one_place
