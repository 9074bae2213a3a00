use Rattle.std.proofs.Common.{◌≡◌, ◌≤◌, List, take, ◌∙◌, arith, length}
use Rattle.std.proofs.lemmas.List.{take_all}
use Rattle.rng_model.specs.Classes.{Class, any, any_except, namespace, namespace_except, one, either}
use Rattle.name_classes.specs.declared.part.Part.{Part}
use Rattle.name_classes.specs.declared.part.Part.TheVariants.{Any, Namespace, One, Choice}
use Rattle.name_classes.specs.Parts.{parts_of, is_choice, excepts, in_part, in_parts}
use Rattle.name_classes.specs.Views.{class_of}
use Rattle.name_classes.proofs.class.NameClass.copy.Goals as goal

pub of_parts-requires : goal.of_parts-requires
of_parts-requires c = record { class = class_of c.args.self.now; is = c.loop-part.invariant ∙ take_all c.loop-part.part-index c.parts-part-items.result.now (omega (arith, c.loop-part-test.false)) ∙ c.parts-part-items.ensures }

pub returns : goal.returns
returns c = c.of_parts.ensures (class_of c.args.self.now) (c.loop-part.invariant ∙ take_all c.loop-part.part-index c.parts-part-items.result.now (omega (arith, c.loop-part-test.false)) ∙ c.parts-part-items.ensures)
