-- The numbers before the next are searched.
use Rattle.restrictions.specs.Shared.{AreStanding}
use Rattle.restrictions.proofs.shared.stand_all.Given as goal

abbrev pub invariant-loop-id : goal.invariant-loop-id
invariant-loop-id l = AreStanding l.schema.schema l.sought l.names l.schema.pool l.id l.known.items
