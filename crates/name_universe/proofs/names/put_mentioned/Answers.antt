-- The first that is left is put.
use Rattle.std.proofs.Common.{arith, ap, length}
use Rattle.name_universe.proofs.Popping.{put_first, put_nothing, put_each, nothing_left}
use Rattle.name_universe.proofs.names.put_mentioned.Goals as goal

pub names-init : goal.names-init
names-init c = put_nothing _ _ _

pub names-preserved : goal.names-preserved
names-preserved c = put_first _ _ _ _ _ _ _ _ c.in-Some.ensures.removal c.names.invariant c.in_ok-put.ensures

pub names-smaller : goal.names-smaller
names-smaller c = let e = ap length c.in-Some.ensures.removal in omega arith

pub returns : goal.returns
returns c = put_each _ _ _ _ _ (nothing_left _ c.in_default.ensures.variant.1) c.names.invariant
