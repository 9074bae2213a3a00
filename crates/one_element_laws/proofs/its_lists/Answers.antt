use Rattle.one_element_laws.proofs.Lists.{lists_of_one}
use Rattle.one_element_laws.proofs.its_lists.Goals as goal

pub returns : goal.returns
returns c = λ name is. lists_of_one name
