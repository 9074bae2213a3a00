-- The first that is left is put.
use Rattle.std.proofs.Common.{arith, ap, length}
use Rattle.text_atoms.proofs.Extending.{put_first, put_none, put_each}
use Rattle.text_atoms.proofs.Sets.{nothing_left}
use Rattle.text_atoms.proofs.origins.put_all.Goals as goal

pub texts-init : goal.texts-init
texts-init c = put_none _ _ _

pub texts-preserved : goal.texts-preserved
texts-preserved c = put_first _ _ _ _ _ _ _ _ c.in-Some.ensures.removal c.texts.invariant c.in_ok-put.ensures

pub texts-smaller : goal.texts-smaller
texts-smaller c = let e = ap length c.in-Some.ensures.removal in omega arith

pub returns : goal.returns
returns c = put_each _ _ _ _ _ (nothing_left _ c.in_default.ensures.variant.1) c.texts.invariant
