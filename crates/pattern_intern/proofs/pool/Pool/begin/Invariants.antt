-- The first patterns are taken in.
use Rattle.pattern_intern.specs.Gathered.{IsBegun}
use Rattle.pattern_intern.proofs.pool.Pool.begin.Given as goal

abbrev pub invariant-loop-k : goal.invariant-loop-k
invariant-loop-k l = IsBegun l.patterns l.k l.found.keys
