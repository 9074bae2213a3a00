use Rattle.pattern_intern.proofs.Searching.{ok_one}
use Rattle.pattern_intern.proofs.literals.visit.Goals as goal

pub returns : goal.returns
returns c = ok_one c.visit_reached.result c.visit_reached.ensures (λ f. λ g k. f g (c.visit_inside.ensures.search g _ _ k))
