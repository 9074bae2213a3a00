-- Names that meet in the start or in a content, and lists in windows.
use Rattle.std.proofs.Common.{◌≡◌, ◌≢◌, ◌↔◌, ℕ, zero, suc, ◌+◌, ◌<◌, ◌⊎◌, inl, inr, Bool, true, false, ◌==◌, ◌||◌, List, [], ◌∷◌, ◌++◌, Some, slice_get, length, take, drop, min, refl, sym, ◌∙◌, ap, subst, arith}
use Rattle.std.specs.List.{AllByRecursion}
use Rattle.std.specs.List.Sorted.{IsStrictlySortedBy}
use Rattle.std.specs.declared.cmp.Ordering.{Ordering}
use Rattle.std.specs.declared.cmp.Ordering.TheVariants.{Less}
use Rattle.rng_model.specs.Names.{Name, name_cmp}
use Rattle.rng_model.specs.Patterns.{Pattern, Schema, Definition, Defines}
use Rattle.std.proofs.lemmas.List.{take-append-drop}
use Rattle.restrictions.proofs.Numbers.{same_or}
use Rattle.restrictions.proofs.Reflecting.{or_true}
use Rattle.restrictions.specs.NameSets.{has, IsSetOf, IsWindow}
use Rattle.restrictions.specs.Shared.{shared, AreMet, IsSharedBelow}
use Rattle.restrictions.specs.Truths.{within}
use Rattle.restrictions.specs.declared.name_set.NameSet.{NameSet}
use Rattle.restrictions.specs.declared.shared.Sought.{Sought}

module _ (g : Schema) (k : Sought) (names : List Name) where
  abbrev meets : Pattern → Name → Bool
  meets p n = within (shared g k n) p

  pub met_start : (s : NameSet) → IsSetOf names (meets g.start) s → AreMet g k names 0 s
  met_start s h = record { each = λ j n at. (λ e. inl (sym (h.each j n at) ∙ e), back j n at) }
    where
      back : (j : ℕ) (n : Name) → slice_get names j ≡ Some n → IsSharedBelow g k 0 n → has s j ≡ true
      back j n at (inl e) = h.each j n at ∙ e
      back j n at (inr (d, x, l, is, y)) = absurd (omega (arith, l))

  pub met_more : (m : ℕ) (e : Definition) (s t r : NameSet) → Defines g m e → IsSetOf names (meets e.content) t → ((j : ℕ) → has r j ≡ (has s j || has t j)) →
      AreMet g k names m s → AreMet g k names (m + 1) r
  met_more m e s t r is h joined a = record { each = λ j n at. (to j n at, from j n at) }
    where
      Here : Name → Type 0
      Here n = meets e.content n ≡ true

      here : (j : ℕ) (n : Name) → slice_get names j ≡ Some n → (has t j ≡ true) ↔ Here n
      here j n at = (λ f. sym (h.each j n at) ∙ f, λ f. h.each j n at ∙ f)

      split : (j : ℕ) (n : Name) → slice_get names j ≡ Some n → ((has s j || has t j) ≡ true) ↔ (IsSharedBelow g k m n ⊎ Here n)
      split j n at = or_true (has s j) (has t j) (a.each j n at) (here j n at)

      wider : (n : Name) → IsSharedBelow g k m n ⊎ Here n → IsSharedBelow g k (m + 1) n
      wider n (inl (inl f)) = inl f
      wider n (inl (inr (d, x, l, is_x, y))) = inr (d, x, omega (arith, l), is_x, y)
      wider n (inr f) = inr (m, e, omega arith, is, f)

      narrow : (n : Name) → IsSharedBelow g k (m + 1) n → IsSharedBelow g k m n ⊎ Here n
      narrow n (inl f) = inl (inl f)
      narrow n (inr (d, x, l, is_x, f)) = go (same_or d m)
        where
          go : (d ≡ m) ⊎ (d ≢ m) → IsSharedBelow g k m n ⊎ Here n
          go (inl q) =
              let both : Some x ≡ Some e = sym is_x ∙ ap (slice_get g.elements) q ∙ is in
              let one : x ≡ e = cc in
              inr (ap (λ y. meets y.content n) (sym one) ∙ f)
          go (inr q) = inl (inr (d, x, omega (arith, l, q), is_x, f))

      to : (j : ℕ) (n : Name) → slice_get names j ≡ Some n → has r j ≡ true → IsSharedBelow g k (m + 1) n
      to j n at f = wider n ((split j n at).0 (sym (joined j) ∙ f))

      from : (j : ℕ) (n : Name) → slice_get names j ≡ Some n → IsSharedBelow g k (m + 1) n → has r j ≡ true
      from j n at f = joined j ∙ (split j n at).1 (narrow n f)

module _ {X : Type 0} (c : X → X → Ordering) where
  all_split : (P : X → Type 0) (xs ys : List X) → AllByRecursion P (xs ++ ys) → AllByRecursion P xs × AllByRecursion P ys
  all_split P [] ys h = (tt, h)
  all_split P (x ∷ xs) ys h = let t = all_split P xs ys h.1 in ((h.0, t.0), t.1)

  -- both parts of an ascending list ascend
  pub sorted_split : (xs ys : List X) → IsStrictlySortedBy c (xs ++ ys) → IsStrictlySortedBy c xs × IsStrictlySortedBy c ys
  unfolding IsStrictlySortedBy
  sorted_split [] ys h = (tt, h)
  sorted_split (x ∷ xs) ys h =
      let t = sorted_split xs ys h.1 in
      (((all_split (λ y. c x y ≡ Less) xs ys h.0).0, t.0), t.1)

module _ (P : Name → Type 0) where
  -- none of the names
  abbrev pub NoneIs : List Name → Type 0
  NoneIs ns = (j : ℕ) (n : Name) → slice_get ns j ≡ Some n → P n → ⊥

  -- none of a front, and none of the others: none of all
  pub none_of_both : (xs ys : List Name) → NoneIs xs → NoneIs ys → NoneIs (xs ++ ys)
  none_of_both [] ys f h j n e p = h j n e p
  none_of_both (x ∷ xs) ys f h zero n e p = f 0 n e p
  none_of_both (x ∷ xs) ys f h (suc j) n e p = none_of_both xs ys (λ i m a b. f (suc i) m a b) h j n e p

-- a list is what lies before a place and what lies behind it
pub in_two : (xs front back : List Name) (m : ℕ) → front ≡ take m xs → back ≡ drop m xs → front ++ back ≡ xs
in_two xs front back m f b = (λ i. f i ++ b i) ∙ take-append-drop m xs

-- the first names of a list that isn't empty are a window
pub window_of : (xs front : List Name) (m : ℕ) → (length xs == 0) ≡ false → m ≡ min (length xs) 64 → front ≡ take m xs → length front ≡ m → IsStrictlySortedBy name_cmp xs → IsWindow front
window_of xs front m some is f l up = record {
  some = at_least (l ∙ is) (positive xs some);
  few = omega (arith, is, l);
  ascending = (sorted_split name_cmp front (drop m xs) (subst (IsStrictlySortedBy name_cmp) (sym (in_two xs front (drop m xs) m f refl)) up)).0;
}
  where
    positive : (ys : List Name) → (length ys == 0) ≡ false → 0 < length ys
    positive [] e = absurd (cc)
    positive (y ∷ ys) e = omega arith

    at_least : length front ≡ min (length xs) 64 → 0 < length xs → 0 < length front
    at_least e p = omega (arith, e, p)
