-- The first ones have been added.
use Rattle.std.proofs.Common.{take}
use Rattle.derivatives.specs.Remainders.{AreAdded}
use Rattle.derivatives.proofs.remainder_set.RemainderSet.add_all.Given as goal

abbrev pub invariant-loop-remainder : goal.invariant-loop-remainder
invariant-loop-remainder l = AreAdded (take l.remainder-index l.remainders) l.fn.self l.self
