-- Part by part.
use Rattle.rng_model.specs.Names.{Name}
use Rattle.name_classes.specs.Views.{class_of}
use Rattle.name_universe.specs.PartNames.{part_names}
use Rattle.name_universe.proofs.NameSets.{adds_nil}
use Rattle.name_universe.proofs.ClassParts.{adds_more, adds_all, names_of_parts}
use Rattle.name_universe.proofs.mentions.add_names.Goals as goal

pub loop-part-init : goal.loop-part-init
loop-part-init c = adds_nil Name _

pub loop-part-preserved : goal.loop-part-preserved
loop-part-preserved c = adds_more Name part_names _ _ _ c.parts-part-items.result.now c.loop-part.part-index c.part-item.result c.loop-part-test.true c.part-item.is c.loop-part.invariant c.in_ok-add_part_name.ensures

pub returns : goal.returns
returns c = adds_all Name part_names _ _ _ (class_of c.args.class.now) c.parts-part-items.result.now c.loop-part.part-index c.loop-part-test.false c.parts-part-items.ensures (names_of_parts (class_of c.args.class.now)) c.loop-part.invariant
