-- A key is put in its place in an ascending list, where keys that tie are one.
use Rattle.std.proofs.Common.{◌≡◌, zero, suc, ◌⊎◌, inl, inr, List, [], ◌∷◌, refl, sym, ◌∙◌, ap, arith, Contains}
use Rattle.std.specs.List.{AllByRecursion}
use Rattle.std.specs.List.Sorted.{IsStrictlySortedBy}
use Rattle.std.specs.declared.cmp.Ordering.{Ordering}
use Rattle.std.specs.declared.cmp.Ordering.TheVariants.{Less, Equal, Greater}
use Rattle.std.specs.Ordering.{match_ordering, ordering_reverse}
use Rattle.std.specs.Cmp.{IsTotalOrder}
use Rattle.std.specs.BTreeSet.{insert_key}

module _ {K : Type 0} (R : K → K → Ordering) (total : IsTotalOrder R) (exact : (x y : K) → R x y ≡ Equal → x ≡ y) where
  all_inserted : (P : K → Type 0) (xs : List K) (k : K) → AllByRecursion P xs → P k → AllByRecursion P (insert_key R xs k)
  all_inserted P [] k a p = (p, tt)
  all_inserted P (x ∷ xs) k a p = go (all_inserted P xs k a.1 p) (R k x)
    where
      go : AllByRecursion P (insert_key R xs k) → (o : Ordering) → AllByRecursion P (match_ordering o (k ∷ x ∷ xs) (x ∷ xs) (x ∷ insert_key R xs k))
      go rest Less = (p, a)
      go rest Equal = a
      go rest Greater = (a.0, rest)

  all_above : (k x : K) (xs : List K) → R k x ≡ Less → AllByRecursion (λ y. R x y ≡ Less) xs → AllByRecursion (λ y. R k y ≡ Less) xs
  all_above k x [] e a = tt
  all_above k x (y ∷ xs) e a = (total.trans k x y e a.0, all_above k x xs e a.1)

  pub inserted_ascends : (xs : List K) (k : K) → IsStrictlySortedBy R xs → IsStrictlySortedBy R (insert_key R xs k)
  unfolding IsStrictlySortedBy
  inserted_ascends [] k s = (tt, tt)
  inserted_ascends (x ∷ xs) k s = go (inserted_ascends xs k s.1) (R k x) refl
    where
      go : IsStrictlySortedBy R (insert_key R xs k) → (o : Ordering) → R k x ≡ o → IsStrictlySortedBy R (match_ordering o (k ∷ x ∷ xs) (x ∷ xs) (x ∷ insert_key R xs k))
      go rest Less e = ((e, all_above k x xs e s.0), s)
      go rest Equal e = s
      go rest Greater e = (all_inserted (λ y. R x y ≡ Less) xs k s.0 (total.antisymm x k ∙ ap ordering_reverse e), rest)

  head_or_tail : (x z : K) (xs : List K) → Contains (x ∷ xs) z → (x ≡ z) ⊎ Contains xs z
  head_or_tail x z xs (zero, l, e) = inl e
  head_or_tail x z xs (suc i, l, e) = inr (i, omega arith, e)

  at_head : (x z : K) (xs : List K) → x ≡ z → Contains (x ∷ xs) z
  at_head x z xs e = (zero, omega arith, e)

  in_tail : (x z : K) (xs : List K) → Contains xs z → Contains (x ∷ xs) z
  in_tail x z xs (i, l, e) = (suc i, omega arith, e)

  pub inserted_to : (xs : List K) (k z : K) → Contains (insert_key R xs k) z → (k ≡ z) ⊎ Contains xs z
  inserted_to [] k z h = head_or_tail k z [] h
  inserted_to (x ∷ xs) k z h = go (inserted_to xs k z) (R k x) h
    where
      past : (k ≡ z) ⊎ Contains xs z → (k ≡ z) ⊎ Contains (x ∷ xs) z
      past (inl e) = inl e
      past (inr c) = inr (in_tail x z xs c)

      later : (Contains (insert_key R xs k) z → (k ≡ z) ⊎ Contains xs z) → (x ≡ z) ⊎ Contains (insert_key R xs k) z → (k ≡ z) ⊎ Contains (x ∷ xs) z
      later rest (inl e) = inr (at_head x z xs e)
      later rest (inr c) = past (rest c)

      go : (Contains (insert_key R xs k) z → (k ≡ z) ⊎ Contains xs z) → (o : Ordering) →
          Contains (match_ordering o (k ∷ x ∷ xs) (x ∷ xs) (x ∷ insert_key R xs k)) z → (k ≡ z) ⊎ Contains (x ∷ xs) z
      go rest Less c = head_or_tail k z (x ∷ xs) c
      go rest Equal c = inr c
      go rest Greater c = later rest (head_or_tail x z (insert_key R xs k) c)

  pub inserted_from : (xs : List K) (k z : K) → (k ≡ z) ⊎ Contains xs z → Contains (insert_key R xs k) z
  inserted_from [] k z (inl e) = at_head k z [] e
  inserted_from [] k z (inr c) = in_tail k z [] c
  inserted_from (x ∷ xs) k z h = go (inserted_from xs k z) (R k x) refl h
    where
      later : ((k ≡ z) ⊎ Contains xs z → Contains (insert_key R xs k) z) → (x ≡ z) ⊎ Contains xs z → Contains (x ∷ insert_key R xs k) z
      later rest (inl e) = at_head x z (insert_key R xs k) e
      later rest (inr c) = in_tail x z (insert_key R xs k) (rest (inr c))

      go : ((k ≡ z) ⊎ Contains xs z → Contains (insert_key R xs k) z) → (o : Ordering) → R k x ≡ o → (k ≡ z) ⊎ Contains (x ∷ xs) z →
          Contains (match_ordering o (k ∷ x ∷ xs) (x ∷ xs) (x ∷ insert_key R xs k)) z
      go rest Less e (inl p) = at_head k z (x ∷ xs) p
      go rest Less e (inr c) = in_tail k z (x ∷ xs) c
      go rest Equal e (inl p) = at_head x z xs (sym (exact k x e) ∙ p)
      go rest Equal e (inr c) = c
      go rest Greater e (inl p) = in_tail x z (insert_key R xs k) (rest (inl p))
      go rest Greater e (inr c) = later rest (head_or_tail x z xs c)
