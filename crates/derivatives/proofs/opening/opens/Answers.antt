use Rattle.std.proofs.Common.{◌≡◌, ◌==◌, ◌∙◌, ℕ, Bool, false, not, sym, ap, arith}
use Rattle.table_laws.specs.Remainders.{remainders}
use Rattle.derivatives.proofs.Entering.{opening_nowhere}
use Rattle.derivatives.proofs.RemainderSets.{no_numbers, none_remain}
use Rattle.derivatives.proofs.opening.opens.Goals as goal

none_to : (n : ℕ) (b : Bool) → b ≡ (n == 0) → not b ≡ false → n ≡ 0
none_to n b is h = grind arith

none_from : (n : ℕ) (b : Bool) → b ≡ (n == 0) → n ≡ 0 → not b ≡ false
none_from n b is h = grind arith

pub returns-clause-opens : goal.returns-clause-opens
returns-clause-opens c =
    let set = c.in_ok-find_set.ensures.sets.each _ _ c.get.ensures in
    let same = ap remainders (c.in_ok-find_set.ensures.kept.kept _ c.requires.inside) in (
      λ h. sym same ∙ none_remain _ _ _ set (none_to _ _ c.is_empty.ensures h),
      λ e. none_from _ _ c.is_empty.ensures (no_numbers _ _ _ set (same ∙ e)),
    )

pub returns-clause-nowhere : goal.returns-clause-nowhere
returns-clause-nowhere c = λ h name.
    let set = c.in_ok-find_set.ensures.sets.each _ _ c.get.ensures in
    opening_nowhere c.opening_rows_of_heads.ensures.any_order _ _ _
    (sym (ap remainders (c.in_ok-find_set.ensures.kept.kept _ c.requires.inside)) ∙ none_remain _ _ _ set (none_to _ _ c.is_empty.ensures h))
