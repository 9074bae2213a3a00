use Rattle.std.proofs.Common.{◌≤◌, subst, sym}
use Rattle.pattern_intern.specs.Stored.{count}
use Rattle.pattern_intern.proofs.Cutting.{cut_pool, cut_stored}
use Rattle.pattern_intern.proofs.pool.Pool.cut.Goals as goal

pub invariant_of-self : goal.invariant_of-self
invariant_of-self c = rw (c.truncate.ensures.keys, c.truncate-2.ensures.items) (cut_pool _ _ _ _ c.self.invariant c.args.len c.requires.0 (subst (λ s. c.args.len ≤ count s) (sym c.self.view_is) c.requires.1))

pub returns : goal.returns
returns c = rw (← c.self.view_is, c.truncate.ensures.keys) (cut_stored _ _ _ _ c.self.invariant c.args.len c.requires.0 (subst (λ s. c.args.len ≤ count s) (sym c.self.view_is) c.requires.1))
