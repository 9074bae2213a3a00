use Rattle.restrictions.proofs.Describing.{standing_more}
use Rattle.restrictions.proofs.shared.stand_all.Goals as goal

pub loop-id-preserved : goal.loop-id-preserved
loop-id-preserved c = rw (c.in_ok-push.ensures.items) (standing_more _ _ _ _ _ _ _ c.loop-id.invariant c.stand-next.ensures)
