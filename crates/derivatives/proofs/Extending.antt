-- A pool that grows twice has grown.
use Rattle.std.proofs.Common.{refl, ◌∙◌, arith}
use Rattle.pattern_intern.specs.Stored.{Stored, Extends}

pub extends_refl : (s : Stored) → Extends s s
extends_refl s =
    record { longer = omega arith; kept = λ i l. refl; more_classes = omega arith; classes = λ i l. refl; more_literals = omega arith; literals = λ i l. refl }

pub extends_trans : (a b c : Stored) → Extends a b → Extends b c → Extends a c
extends_trans a b c h k =
    let l = h.longer in let l' = k.longer in let m = h.more_classes in let m' = k.more_classes in let n = h.more_literals in let n' = k.more_literals in
    record {
      longer = omega (arith, l, l');
      kept = λ i w. k.kept i (omega (arith, w, l)) ∙ h.kept i w;
      more_classes = omega (arith, m, m');
      classes = λ i w. k.classes i (omega (arith, w, m)) ∙ h.classes i w;
      more_literals = omega (arith, n, n');
      literals = λ i w. k.literals i (omega (arith, w, n)) ∙ h.literals i w;
    }
