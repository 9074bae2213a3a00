-- The number falls; the last members' results are joined.
use Rattle.std.proofs.Common.{◌≡◌, ◌+◌, ◌*◌, length}
use Rattle.rng_model.specs.Derivatives.{close}
use Rattle.derivatives.specs.Kept.{AreRight}
use Rattle.derivatives.specs.Spines.{IsJoined}
use Rattle.derivatives.proofs.closing.+close.Given as goal

abbrev pub decreases-close : goal.decreases-close
decreases-close l = 3 * l.id.0 + 2

abbrev pub decreases-close_of : goal.decreases-close_of
decreases-close_of l = 3 * l.id.0 + 1

abbrev pub decreases-close_members : goal.decreases-close_members
decreases-close_members l = 3 * l.id.0

abbrev pub invariant-close_members-loop-member : goal.invariant-close_members-loop-member
invariant-close_members-loop-member l = record {
  joined : IsJoined (close) l.fn.schema.pool l.fn.id.0 l.firsts.items l.rest l.schema.pool;
  right : AreRight (close) l.schema.pool l.kept;
  schema : l.schema.schema ≡ l.fn.schema.schema;
}

abbrev pub decreases-close_members-loop-member : goal.decreases-close_members-loop-member
decreases-close_members-loop-member l = length l.firsts.items
