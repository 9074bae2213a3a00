-- The numbers are those of the attributes' classes.
use Rattle.rng_model.specs.Universe.{IsAttributeClass}
use Rattle.pattern_intern.specs.Attributes.{HasClass}
use Rattle.name_universe.proofs.Gathering.{mentions_as}
use Rattle.name_universe.proofs.gather.attribute_mentions.Goals as goal

pub returns : goal.returns
returns c =
    mentions_as (HasClass c.args.schema.now.pool c.in_ok-classes.classes.items) (IsAttributeClass c.args.schema.now.schema) c.in_ok-classes.ensures.each _ _ (rw c.as_slice.ensures.value at c.in_ok-mentions.ensures)
