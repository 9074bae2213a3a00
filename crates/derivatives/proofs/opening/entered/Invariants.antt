-- The last remainders have been entered.
use Rattle.std.proofs.Common.{◌≤◌, length}
use Rattle.derivatives.proofs.Entering.{AreEntered}
use Rattle.derivatives.proofs.opening.entered.Given as goal

abbrev pub invariant-loop-next : goal.invariant-loop-next
invariant-loop-next l = record {
  next : l.next ≤ length l.remainders;
  entered : AreEntered l.fn.schema l.schema l.name l.remainders l.next l.made;
}

abbrev pub decreases-loop-next : goal.decreases-loop-next
decreases-loop-next l = l.next
