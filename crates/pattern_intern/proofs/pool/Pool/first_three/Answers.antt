use Rattle.pattern_intern.proofs.Starting.{first_of}
use Rattle.pattern_intern.proofs.pool.Pool.first_three.Goals as goal

pub returns-clause-not_allowed : goal.returns-clause-not_allowed
returns-clause-not_allowed c = rw (← c.self.view_is) (first_of _ _ _ c.self.invariant 0 _ c.self.invariant.first)

pub returns-clause-empty : goal.returns-clause-empty
returns-clause-empty c = rw (← c.self.view_is) (first_of _ _ _ c.self.invariant 1 _ c.self.invariant.second)

pub returns-clause-any_text : goal.returns-clause-any_text
returns-clause-any_text c = rw (← c.self.view_is) (first_of _ _ _ c.self.invariant 2 _ c.self.invariant.third)
