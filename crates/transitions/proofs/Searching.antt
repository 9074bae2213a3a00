-- The search of a row for the least code by which it leads to a marked state.
use Rattle.std.proofs.Common.{◌≡◌, ℕ, ◌+◌, ◌<◌, ◌≤◌, ◌⊎◌, inl, inr, Bool, List, Option, Some, length, slice_get, sym, ◌∙◌, ap, subst, arith}
use Rattle.std.specs.declared.cmp.Ordering.TheVariants.{Less}
use Rattle.std.proofs.lemmas.Bool.{cases_order}
use Rattle.std.proofs.lemmas.Option.{slice_get_within}
use Rattle.rng_model.specs.Codes.{Code, code_cmp}
use Rattle.transitions.specs.declared.arc.Arc.{Arc}
use Rattle.transitions.specs.Arcs.{Covers}
use Rattle.transitions.specs.Bounds.{IsPast}
use Rattle.transitions.specs.Searches.{AreSkipped, GoesToMarked, IsInOrder, IsLeastMarked, IsMarked, IsProbed, NoneBefore, NoneMarked, NoneProbed}
use Rattle.transitions.proofs.Ordered.{less_is, turned}

module _ (row : List Arc) (marks : List (List Bool)) (left : ℕ) (bound : Option Code) where
  pub none_first : (n : ℕ) → AreSkipped row bound n → NoneBefore row marks left bound n
  none_first n s = record { none = λ d other g l p. s.none g.goes.place g.goes.arc l g.goes.is d g.goes.covers p }

  pub none_last : (n : ℕ) → length row ≤ n → NoneBefore row marks left bound n → NoneMarked row marks left bound
  none_last n l h d other p g = h.none d other g (let w = slice_get_within row g.goes.place g.goes.arc g.goes.is in omega (arith, w, l)) p

  module _ (n : ℕ) (a : Arc) (is : slice_get row n ≡ Some a) (h : NoneBefore row marks left bound n) where
    here : (d : Code) (other : ℕ) (g : GoesToMarked row marks left d other) → g.goes.place ≡ n → g.goes.arc ≡ a
    here d other g e = let f = subst (λ k. slice_get row k ≡ Some g.goes.arc) e g.goes.is in cc

    more : ((d : Code) (other : ℕ) (g : GoesToMarked row marks left d other) → g.goes.place ≡ n → IsPast bound d → ⊥) → NoneBefore row marks left bound (n + 1)
    more off = record { none = λ d other g l p. go d other g l p (cases_order g.goes.place n) }
      where
        go : (d : Code) (other : ℕ) (g : GoesToMarked row marks left d other) → g.goes.place < n + 1 → IsPast bound d → (g.goes.place ≡ n) ⊎ ((g.goes.place < n) ⊎ (n < g.goes.place)) → ⊥
        go d other g l p (inl e) = off d other g e p
        go d other g l p (inr (inl k)) = h.none d other g k p
        go d other g l p (inr (inr k)) = absurd (omega (arith, k, l))

    to_here : (d : Code) (other : ℕ) (g : GoesToMarked row marks left d other) → g.goes.place ≡ n → other ≡ a.next.0
    to_here d other g e = sym g.goes.to ∙ ap (λ (x : Arc). x.next.0) (here d other g e)

    pub none_here : NoneProbed a marks left bound → NoneBefore row marks left bound (n + 1)
    none_here s = more (λ d other g e p.
        s d (subst (λ (x : Arc). Covers x d) (here d other g e) g.goes.covers) p (subst (IsMarked marks left) (to_here d other g e) g.marked))

    pub found : IsInOrder row → (c : Code) (next : ℕ) → IsProbed a marks left bound c next → IsLeastMarked row marks left bound c next
    found o c next t = record {
      past = t.least.past;
      marked = record { goes = record { place = n; arc = a; is = is; covers = t.least.covers; to = t.to }; marked = t.marked };
      first = λ d other p less g. go d other p less g (cases_order g.goes.place n);
    }
      where
        go : (d : Code) (other : ℕ) → IsPast bound d → code_cmp d c ≡ Less → (g : GoesToMarked row marks left d other) → (g.goes.place ≡ n) ⊎ ((g.goes.place < n) ⊎ (n < g.goes.place)) → ⊥
        go d other p less g (inl e) = t.least.first d (subst (λ (x : Arc). Covers x d) (here d other g e) g.goes.covers) p less
        go d other p less g (inr (inl k)) = h.none d other g k p
        go d other p less g (inr (inr k)) =
            let b = less_is c d (o.ascending n g.goes.place a g.goes.arc c d k is g.goes.is t.least.covers g.goes.covers) in
            let r = turned c d Less b in
            absurd (cc)
