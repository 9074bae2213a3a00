use Rattle.one_element_laws.proofs.Matched.{root_alone}
use Rattle.one_element_laws.proofs.one_skeleton.Goals as goal

pub returns : goal.returns
returns c = root_alone
