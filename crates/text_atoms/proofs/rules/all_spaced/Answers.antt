-- The first form that is left is spaced.
use Rattle.std.proofs.Common.{arith, ap, length}
use Rattle.text_atoms.proofs.RuleTexts.{none_spaced, more_spaced, all_are_spaced}
use Rattle.text_atoms.proofs.Sets.{nothing_left}
use Rattle.text_atoms.proofs.rules.all_spaced.Goals as goal

pub forms-init : goal.forms-init
forms-init c = none_spaced _ _ _ c.new-texts.ensures.empty

pub forms-preserved : goal.forms-preserved
forms-preserved c = more_spaced _ _ _ _ _ _ _ _ c.in-Some.ensures.removal c.forms.invariant c.in_ok-text.ensures c.in_ok-add.ensures

pub forms-smaller : goal.forms-smaller
forms-smaller c = let e = ap length c.in-Some.ensures.removal in omega arith

pub returns : goal.returns
returns c = all_are_spaced _ _ _ _ (nothing_left _ c.in_default.ensures.variant.1) c.forms.invariant
