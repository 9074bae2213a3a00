-- The first remainders have been added, grown.
use Rattle.std.proofs.Common.{take}
use Rattle.derivatives.proofs.Gathered.{AreGrown}
use Rattle.derivatives.proofs.gathering.grow_all.Given as goal

abbrev pub invariant-loop-remainder : goal.invariant-loop-remainder
invariant-loop-remainder l = AreGrown l.fn.schema l.schema l.by (take l.remainder-index l.remainders) l.fn.made l.made
