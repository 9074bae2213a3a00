-- The literals so far are the pool's.
use Rattle.pattern_intern.specs.Members.{AreIn}
use Rattle.benchmarks.proofs.pools.choice_of_all.Given as goal

abbrev pub invariant-loop-number : goal.invariant-loop-number
invariant-loop-number l = AreIn l.pool l.members.items
