-- The name at each position in turn.
use Rattle.std.proofs.Common.{arith}
use Rattle.name_classes.specs.Views.{class_of}
use Rattle.name_universe.proofs.Sides.{below_none, below_more, below_all}
use Rattle.name_universe.proofs.partition.Partition.split_outside.Goals as goal

pub loop-position-init : goal.loop-position-init
loop-position-init c = below_none c.args.names.now (class_of c.args.class.now) _ _ _

pub split_other-requires : goal.split_other-requires
split_other-requires c = omega (arith, c.loop-position-test.true, c.len-position-end.ensures.length, c.requires, c.loop-position.invariant.same_length)

pub loop-position-preserved : goal.loop-position-preserved
loop-position-preserved c = below_more c.args.names.now (class_of c.args.class.now) _ _ c.get.ensures _ _ _ _ _ _ _ c.loop-position.invariant c.in_ok-split_other.ensures

pub returns : goal.returns
returns c = below_all c.args.names.now (class_of c.args.class.now) c.loop-position.position (omega (arith, c.loop-position-test.false, c.len-position-end.ensures.length)) _ _ _ _ _ c.loop-position.invariant
