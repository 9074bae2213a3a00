-- The pattern so far is the pool's.
use Rattle.std.proofs.Common.{◌<◌}
use Rattle.pattern_intern.specs.Stored.{count}
use Rattle.benchmarks.proofs.pools.mixed.Given as goal

abbrev pub invariant-loop-number : goal.invariant-loop-number
invariant-loop-number l = l.last.0 < count l.pool
