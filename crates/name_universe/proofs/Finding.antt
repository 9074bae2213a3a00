-- Where a key stands among ascending ones.
use Rattle.std.proofs.Common.{◌≡◌, ℕ, zero, suc, ◌+◌, ◌<◌, ◌≤◌, ◌⊎◌, inl, inr, List, [], ◌∷◌, length, map, refl, sym, ◌∙◌, ap, subst, arith, Contains, Some, Option, get_or, slice_get, Ok, Err, Result, MatchResult}
use Rattle.std.proofs.lemmas.List.{length-map}
use Rattle.rng_model.proofs.Groups.{lesser}
use Rattle.std.specs.Ordering.{is_lt, ordering_reverse}
use Rattle.std.specs.declared.cmp.Ordering.{Ordering}
use Rattle.std.specs.declared.cmp.Ordering.TheVariants.{Less, Equal, Greater}
use Rattle.std.specs.Cmp.{IsTotalOrder, tied_itself}
use Rattle.std.specs.List.Sorted.{IsStrictlySortedBy, IsSortedBy, IsBinarySearchResult, IsSearchInRange}
use Rattle.std.proofs.lemmas.List.Sorted.{searchable_from_sorted}
use Rattle.std.proofs.lemmas.Map.Keys.{Less-from_sorted}
use Rattle.std.proofs.lemmas.Map.Lookups.{CmpEqualImpliesEq, exact_bytes}
use Rattle.std.specs.Ordering.{nat_cmp}
use Rattle.std.specs.Cmp.Lexicographic.{slice_cmp, nat_list_cmp_total}
use Rattle.rng_model.specs.Texts.{Text}
use Rattle.rng_model.specs.Names.{Name, name_cmp}
use Rattle.rng_model.proofs.Orders.{name_order, name_cmp-same}
use Rattle.name_universe.specs.Tables.{spaces_of}

module _ {X K : Type 0} (key : X → K) {R : K → K → Ordering} (order : IsTotalOrder R) (exact : CmpEqualImpliesEq R) where
  get_or-key : (xs : List X) (k : ℕ) (d : X) → get_or (map key xs) k (key d) ≡ key (get_or xs k d)
  get_or-key [] k d = refl
  get_or-key (a ∷ xs) zero d = refl
  get_or-key (a ∷ xs) (suc k) d = get_or-key xs k d

  item_at : (xs : List X) (k : ℕ) (d : X) → k < length xs → slice_get xs k ≡ Some (get_or xs k d)
  item_at [] k d h = absurd (omega arith)
  item_at (b ∷ xs) zero d h = refl
  item_at (b ∷ xs) (suc k) d h = item_at xs k d (omega arith)

  sorted_items : (xs : List X) → IsStrictlySortedBy R (map key xs) → IsSortedBy (λ (a : X) (b : X). is_lt (R (key a) (key b))) xs
  sorted_items xs up k d low high =
      let less : R (get_or (map key xs) k (key d)) (get_or (map key xs) (k + 1) (key d)) ≡ Less = Less-from_sorted R (map key xs) k (k + 1) (key d) up (omega arith) (omega (arith, length-map xs key)) in
      let first : R (key (get_or xs k d)) (key (get_or xs (k + 1) d)) ≡ Less = rw (← get_or-key xs k d, ← get_or-key xs (k + 1) d) less in
      ap is_lt (order.antisymm (key (get_or xs (k + 1) d)) (key (get_or xs k d)) ∙ ap ordering_reverse first)

  -- what a search says
  pub searched : (xs : List X) (x : K) (d : X) → key d ≡ x → (r : Result ℕ ℕ) → IsStrictlySortedBy R (map key xs) → IsSearchInRange r (length xs) →
      IsBinarySearchResult (λ (a : X). R (key a) x) xs r → MatchResult r (λ i. (a : X) × (slice_get xs i ≡ Some a) × (key a ≡ x)) (λ i. Contains (map key xs) x → ⊥)
  searched xs x d is_x (Ok i) up range found = (get_or xs i d, item_at xs i d range, exact (key (get_or xs i d)) x (found d))
  searched xs x d is_x (Err i) up range found = λ (k, below, is). none k (omega (arith, below, length-map xs key)) (sym (get_or-key xs k d) ∙ ap (get_or (map key xs) k) is_x ∙ is) (before k)
    where
      before : (k : ℕ) → (k < i) ⊎ (i ≤ k)
      before k = lesser k i

      itself : (a : X) (o : Ordering) → key a ≡ x → R (key a) x ≡ o → o ≡ Equal
      itself a o same e = sym e ∙ ap (λ (y : K). R y x) same ∙ tied_itself order x

      none : (k : ℕ) → k < length xs → key (get_or xs k d) ≡ x → (k < i) ⊎ (i ≤ k) → ⊥
      none k below same (inl early) =
          let parts = found (searchable_from_sorted order key xs x (sorted_items xs up)) in
          let clash : Less ≡ Equal = itself (get_or xs k d) Less same (parts.0 k d (omega arith) early) in
          cc
      none k below same (inr late) =
          let parts = found (searchable_from_sorted order key xs x (sorted_items xs up)) in
          let clash : Greater ≡ Equal = itself (get_or xs k d) Greater same (parts.1 k d late below) in
          cc

map_same : (xs : List Name) → map (λ (n : Name). n) xs ≡ xs
map_same [] = refl
map_same (x ∷ xs) = ap (λ (ys : List Name). x ∷ ys) (map_same xs)

-- among names
pub searched_name : (xs : List Name) (x : Name) (r : Result ℕ ℕ) → IsStrictlySortedBy name_cmp xs → IsSearchInRange r (length xs) → IsBinarySearchResult (λ a. name_cmp a x) xs r →
    MatchResult r (λ i. slice_get xs i ≡ Some x) (λ i. Contains xs x → ⊥)
searched_name xs x r up range found = go r (searched (λ (n : Name). n) name_order name_cmp-same xs x x refl r (subst (IsStrictlySortedBy name_cmp) (sym (map_same xs)) up) range found)
  where
    go : (r : Result ℕ ℕ) → MatchResult r (λ i. (a : Name) × (slice_get xs i ≡ Some a) × (a ≡ x)) (λ i. Contains (map (λ (n : Name). n) xs) x → ⊥) → MatchResult r (λ i. slice_get xs i ≡ Some x) (λ i. Contains xs x → ⊥)
    go (Ok i) (a, at, e) = at ∙ ap Some e
    go (Err i) h = subst (λ (ys : List Name). Contains ys x → ⊥) (map_same xs) h

-- among namespaces
pub searched_space : (xs : List (Text × Name)) (x : Text) (r : Result ℕ ℕ) → IsStrictlySortedBy (slice_cmp nat_cmp) (spaces_of xs) → IsSearchInRange r (length xs) →
    IsBinarySearchResult (λ (a : Text × Name). slice_cmp nat_cmp a.0 x) xs r → MatchResult r (λ i. (m : Name) × (slice_get xs i ≡ Some (x, m))) (λ i. Contains (spaces_of xs) x → ⊥)
searched_space xs x r up range found = go r (searched (λ (a : Text × Name). a.0) nat_list_cmp_total exact_bytes xs x (x, record { ns = []; local = [] }) refl r up range found)
  where
    go : (r : Result ℕ ℕ) → MatchResult r (λ i. (a : Text × Name) × (slice_get xs i ≡ Some a) × (a.0 ≡ x)) (λ i. Contains (spaces_of xs) x → ⊥) →
        MatchResult r (λ i. (m : Name) × (slice_get xs i ≡ Some (x, m))) (λ i. Contains (spaces_of xs) x → ⊥)
    go (Ok i) (a, at, e) = (a.1, at ∙ ap Some (λ j. (e j, a.1)))
    go (Err i) h = h
