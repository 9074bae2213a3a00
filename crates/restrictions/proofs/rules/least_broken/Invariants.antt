-- No rule with a smaller number is broken.
use Rattle.std.proofs.Common.{ℕ, ◌<◌}
use Rattle.rng_model.specs.Restrictions.{IsBroken}
use Rattle.restrictions.proofs.rules.least_broken.Given as goal

abbrev pub invariant-loop-number : goal.invariant-loop-number
invariant-loop-number l = (k : ℕ) → k < l.number → IsBroken l.schema.schema k → ⊥
