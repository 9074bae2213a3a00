-- The members so far stand before the last pattern, whose number falls.
use Rattle.derivatives.specs.Spines.{IsSpine}
use Rattle.derivatives.proofs.spine.spine.Given as goal

abbrev pub invariant-loop-member : goal.invariant-loop-member
invariant-loop-member l = IsSpine l.pool l.fn.id.0 l.firsts.items l.last

abbrev pub decreases-loop-member : goal.decreases-loop-member
decreases-loop-member l = l.last.0
