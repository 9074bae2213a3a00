use Rattle.pattern_intern.proofs.pool.Pool.all_ordered.Goals as goal

pub returns : goal.returns
returns c = rw (← c.self.view_is) c.self.invariant.ordered
