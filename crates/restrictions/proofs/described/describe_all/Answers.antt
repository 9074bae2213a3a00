use Rattle.restrictions.proofs.Describing.{described_more}
use Rattle.restrictions.proofs.described.describe_all.Goals as goal

pub loop-id-preserved : goal.loop-id-preserved
loop-id-preserved c = rw (c.in_ok-push.ensures.items) (described_more _ _ _ _ c.loop-id.invariant c.describe-next.ensures)
