use Rattle.one_element_laws.proofs.Matched.{root_is_skeleton}
use Rattle.one_element_laws.proofs.its_root.Goals as goal

pub returns-clause-skeleton : goal.returns-clause-skeleton
returns-clause-skeleton c = root_is_skeleton
