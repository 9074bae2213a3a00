-- The places before the next.
use Rattle.restrictions.proofs.Windows.{AreOfSpace}
use Rattle.restrictions.proofs.class_set.space_set.Given as goal

abbrev pub invariant-loop-position : goal.invariant-loop-position
invariant-loop-position l = AreOfSpace l.names l.ns l.position l.found
