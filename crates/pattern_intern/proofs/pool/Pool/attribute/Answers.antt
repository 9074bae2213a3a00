use Rattle.name_classes.specs.Views.{class_of}
use Rattle.pattern_intern.proofs.pool.Pool.attribute.Goals as goal

pub make_attribute-requires : goal.make_attribute-requires
make_attribute-requires c = record { below = c.requires; facts = c.facts_of_attribute-fact.ensures (class_of c.in_ok-class-in_default.class) }
