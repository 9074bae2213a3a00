-- Each member in turn.
use Rattle.std.proofs.Common.{arith, ap, length, sym, ◌∙◌}
use Rattle.name_classes.specs.Views.{class_of}
use Rattle.name_universe.proofs.Popping.{nothing_left}
use Rattle.name_universe.proofs.Sides.{taking_none, taking_more, taking_all}
use Rattle.name_universe.proofs.partition.Partition.split_inside.Goals as goal

pub members-init : goal.members-init
members-init c = taking_none c.args.names.now.names (class_of c.args.class.now) _ _ c.new-members.ensures.empty c.in_ok-add_names.ensures _ _ _

pub split_name-requires : goal.split_name-requires
split_name-requires c = c.requires.length ∙ sym c.members.invariant.are.same_length

pub members-smaller : goal.members-smaller
members-smaller c = let e = ap length c.in-Some.ensures.removal in omega (arith, e)

pub members-preserved : goal.members-preserved
members-preserved c = taking_more c.args.names.now.names (class_of c.args.class.now) _ _ _ c.in-Some.ensures.removal c.in-Some.ensures.all_above _ _ _ _ _ _ _ c.members.invariant c.in_ok-split_name.ensures

pub returns : goal.returns
returns c = taking_all c.args.names.now.names (class_of c.args.class.now) _ c.requires.finite (nothing_left _ c.in_default.ensures.variant.1) _ _ _ _ _ c.members.invariant
