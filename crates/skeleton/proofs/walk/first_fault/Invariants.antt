use Rattle.std.proofs.Common.{◌≡◌, ◌≤◌, drop, map}
use Rattle.line_laws.specs.Walks.{Before, fault_number}
use Rattle.skeleton.specs.Views.{event_of}
use Rattle.skeleton.specs.Places.{walk_of, depth_of}
use Rattle.skeleton.proofs.Reading.{later}
use Rattle.skeleton.proofs.walk.first_fault.Given as goal

abbrev pub invariant-loop-number : goal.invariant-loop-number
invariant-loop-number l = record {
  fault : fault_number Before (map event_of l.events) ≡ later l.number (fault_number (walk_of l.place) (drop l.number (map event_of l.events)));
  shallow : depth_of l.place ≤ l.number;
}
