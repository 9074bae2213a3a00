-- The numbers before the next are described.
use Rattle.restrictions.specs.Described.{AreDescribed}
use Rattle.restrictions.proofs.described.describe_all.Given as goal

abbrev pub invariant-loop-id : goal.invariant-loop-id
invariant-loop-id l = AreDescribed l.pool l.id l.known.items
