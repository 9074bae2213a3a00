-- Part by part.
use Rattle.name_classes.specs.Views.{class_of}
use Rattle.name_universe.proofs.ClassParts.{named_more, named_all}
use Rattle.name_universe.proofs.overlaps.is_named.Goals as goal

pub loop-part-preserved : goal.loop-part-preserved
loop-part-preserved c = named_more c.parts-part-items.result.now c.loop-part.part-index c.part-item.result c.loop-part-test.true c.part-item.is c.loop-part.invariant c.is_named_part.ensures

pub returns : goal.returns
returns c = named_all (class_of c.args.class.now) c.parts-part-items.result.now c.loop-part.part-index c.parts-part-items.ensures c.loop-part-test.false c.loop-part.invariant
