-- The number falls; the last members' results are joined.
use Rattle.std.proofs.Common.{◌≡◌, ◌+◌, ◌*◌, length}
use Rattle.rng_model.specs.Derivatives.{ending}
use Rattle.derivatives.specs.Spines.{IsJoined}
use Rattle.derivatives.proofs.closing.+ending.Given as goal

abbrev pub decreases-ending : goal.decreases-ending
decreases-ending l = 2 * l.id.0 + 1

abbrev pub decreases-ending_members : goal.decreases-ending_members
decreases-ending_members l = 2 * l.id.0

abbrev pub invariant-ending_members-loop-member : goal.invariant-ending_members-loop-member
invariant-ending_members-loop-member l = record {
  joined : IsJoined ending l.fn.schema.pool l.fn.id.0 l.firsts.items l.rest l.schema.pool;
  schema : l.schema.schema ≡ l.fn.schema.schema;
}

abbrev pub decreases-ending_members-loop-member : goal.decreases-ending_members-loop-member
decreases-ending_members-loop-member l = length l.firsts.items
