-- The step leads to the order, and gets smaller.
use Rattle.rng_model.specs.Patterns.{pattern_cmp}
use Rattle.pattern_intern.specs.Steps.{IsStep, size}
use Rattle.pattern_intern.specs.Stored.{tree_at}
use Rattle.pattern_intern.proofs.pool.Pool.compare.Given as goal

abbrev pub invariant-loop-step : goal.invariant-loop-step
invariant-loop-step l = IsStep l.self (pattern_cmp (tree_at l.self l.fn.a.0) (tree_at l.self l.fn.b.0)) l.step

abbrev pub decreases-loop-step : goal.decreases-loop-step
decreases-loop-step l = size l.step
