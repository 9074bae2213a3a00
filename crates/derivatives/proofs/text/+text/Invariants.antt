-- The number falls; the last members' results are joined.
use Rattle.std.proofs.Common.{◌≡◌, ◌+◌, ◌*◌, length}
use Rattle.rng_model.specs.Derivatives.{text_step}
use Rattle.derivatives.specs.KeptTexts.{AreTextResults}
use Rattle.derivatives.specs.Spines.{IsJoined}
use Rattle.derivatives.proofs.text.+text.Given as goal

abbrev pub decreases-text_step : goal.decreases-text_step
decreases-text_step l = 3 * l.id.0 + 2

abbrev pub decreases-text_of : goal.decreases-text_of
decreases-text_of l = 3 * l.id.0 + 1

abbrev pub decreases-text_members : goal.decreases-text_members
decreases-text_members l = 3 * l.id.0

abbrev pub invariant-text_members-loop-member : goal.invariant-text_members-loop-member
invariant-text_members-loop-member l = record {
  joined : IsJoined (text_step l.text) l.fn.schema.pool l.fn.id.0 l.firsts.items l.rest l.schema.pool;
  right : AreTextResults l.text l.schema.pool l.kept;
  schema : l.schema.schema ≡ l.fn.schema.schema;
}

abbrev pub decreases-text_members-loop-member : goal.decreases-text_members-loop-member
decreases-text_members-loop-member l = length l.firsts.items

abbrev pub decreases-text_passed : goal.decreases-text_passed
decreases-text_passed l = 3 * l.second.0 + 3
