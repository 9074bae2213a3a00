-- The number falls; the last members' results are joined.
use Rattle.std.proofs.Common.{◌≡◌, ◌+◌, ◌*◌, length}
use Rattle.rng_model.specs.Derivatives.{attribute_step}
use Rattle.derivatives.specs.Kept.{AreRight}
use Rattle.derivatives.specs.KeptTexts.{AreTextResults}
use Rattle.derivatives.specs.Spines.{IsJoined}
use Rattle.derivatives.proofs.attribute.+attribute.Given as goal

abbrev pub decreases-attribute_step : goal.decreases-attribute_step
decreases-attribute_step l = 3 * l.id.0 + 2

abbrev pub decreases-attribute_of : goal.decreases-attribute_of
decreases-attribute_of l = 3 * l.id.0 + 1

abbrev pub decreases-attribute_members : goal.decreases-attribute_members
decreases-attribute_members l = 3 * l.id.0

abbrev pub invariant-attribute_members-loop-member : goal.invariant-attribute_members-loop-member
invariant-attribute_members-loop-member l = record {
  joined : IsJoined (attribute_step l.name l.text) l.fn.schema.pool l.fn.id.0 l.firsts.items l.rest l.schema.pool;
  right : AreRight (attribute_step l.name l.text) l.schema.pool l.kept;
  texts : AreTextResults l.text l.schema.pool l.texts;
  schema : l.schema.schema ≡ l.fn.schema.schema;
}

abbrev pub decreases-attribute_members-loop-member : goal.decreases-attribute_members-loop-member
decreases-attribute_members-loop-member l = length l.firsts.items
