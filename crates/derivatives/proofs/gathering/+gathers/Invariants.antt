-- The numbers fall. The remainders of the first members have been added.
use Rattle.std.proofs.Common.{◌+◌, ◌*◌}
use Rattle.derivatives.specs.Remainders.{AreBegun, AreSets}
use Rattle.derivatives.proofs.gathering.+gathers.Given as goal

abbrev pub decreases-make_set : goal.decreases-make_set
decreases-make_set l = 4 * l.id.0 + 2

abbrev pub decreases-gather : goal.decreases-gather
decreases-gather l = 4 * l.id.0 + 1

abbrev pub decreases-gather_members : goal.decreases-gather_members
decreases-gather_members l = 4 * l.id.0

abbrev pub decreases-gather_passed : goal.decreases-gather_passed
decreases-gather_passed l = 4 * l.second.0 + 4

abbrev pub decreases-gather_part : goal.decreases-gather_part
decreases-gather_part l = 4 * l.id.0 + 3

abbrev pub decreases-gather_grown : goal.decreases-gather_grown
decreases-gather_grown l = 4 * l.id.0 + 3

abbrev pub invariant-gather_members-loop-member : goal.invariant-gather_members-loop-member
invariant-gather_members-loop-member l = record {
  begun : AreBegun l.fn.schema l.schema l.fn.id.0 l.rest.0 l.fn.made l.made;
  sets : AreSets l.schema l.sets;
}

abbrev pub decreases-gather_members-loop-member : goal.decreases-gather_members-loop-member
decreases-gather_members-loop-member l = l.rest.0
