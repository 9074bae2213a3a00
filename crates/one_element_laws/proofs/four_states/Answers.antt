use Rattle.one_element_laws.proofs.States.{at_most_four}
use Rattle.one_element_laws.proofs.four_states.Goals as goal

pub returns : goal.returns
returns c = at_most_four
