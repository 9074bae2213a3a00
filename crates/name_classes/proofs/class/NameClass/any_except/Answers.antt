use Rattle.std.proofs.Common.{◌≡◌, List, ◌∷◌, true, ap, ◌∙◌}
use Rattle.rng_model.specs.Classes.{Class, any, any_except, namespace, namespace_except, one, either}
use Rattle.name_classes.specs.declared.part.Part.{Part}
use Rattle.name_classes.specs.declared.part.Part.TheVariants.{Any, Namespace, One, Choice}
use Rattle.name_classes.specs.Parts.{parts_of, is_choice, excepts, in_part, in_parts}
use Rattle.name_classes.specs.Views.{class_of}
use Rattle.name_classes.proofs.class.NameClass.any_except.Goals as goal

pub of_parts-requires : goal.of_parts-requires
of_parts-requires c = record { class = any_except (class_of c.args.except); is = c.in_ok-insert.ensures.items ∙ ap (λ (ps : List Part). Any true ∷ ps) c.into_parts-parts.ensures }

pub returns : goal.returns
returns c = c.of_parts.ensures (any_except (class_of c.args.except)) (c.in_ok-insert.ensures.items ∙ ap (λ (ps : List Part). Any true ∷ ps) c.into_parts-parts.ensures)
