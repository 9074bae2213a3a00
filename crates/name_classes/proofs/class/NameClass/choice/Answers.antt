use Rattle.rng_model.specs.Classes.{Class, any, any_except, namespace, namespace_except, one, either}
use Rattle.name_classes.specs.declared.part.Part.{Part}
use Rattle.name_classes.specs.declared.part.Part.TheVariants.{Any, Namespace, One, Choice}
use Rattle.name_classes.specs.Parts.{parts_of, is_choice, excepts, in_part, in_parts}
use Rattle.name_classes.specs.Views.{class_of}
use Rattle.name_classes.proofs.Making.{both}
use Rattle.name_classes.proofs.class.NameClass.choice.Goals as goal

pub of_parts-requires : goal.of_parts-requires
of_parts-requires c = record {
  class = either (class_of c.args.left) (class_of c.args.right);
  is = both (class_of c.args.left) (class_of c.args.right) _ _ c.into_parts-parts.ensures c.into_parts.ensures _ _ c.in_ok-insert.ensures.items c.in_ok-append.ensures.items;
}

pub returns : goal.returns
returns c = c.of_parts.ensures (either (class_of c.args.left) (class_of c.args.right)) (both (class_of c.args.left) (class_of c.args.right) _ _ c.into_parts-parts.ensures c.into_parts.ensures _ _ c.in_ok-insert.ensures.items c.in_ok-append.ensures.items)
