-- The rest falls; what the members before it take is in the set.
use Rattle.value_sets.proofs.Joining.{AreAdded}
use Rattle.value_sets.proofs.value_set.ValueSet.of.Given as goal

abbrev pub invariant-loop-member : goal.invariant-loop-member
invariant-loop-member l = AreAdded l.pool l.fn.id.0 l.rest.0 l.set

abbrev pub decreases-loop-member : goal.decreases-loop-member
decreases-loop-member l = l.rest.0
