-- Membership by recursion, what holds of each member, and lists in strict order with the same members.
use Rattle.std.proofs.Common.{◌≡◌, zero, suc, ◌⊎◌, inl, inr, ◌↔◌, List, [], ◌∷◌, ◌++◌, refl, sym, ◌∙◌, ap, arith, Contains}
use Rattle.std.specs.List.{AllByRecursion}
use Rattle.std.specs.List.Sorted.{IsStrictlySortedBy}
use Rattle.std.specs.declared.cmp.Ordering.{Ordering}
use Rattle.std.specs.declared.cmp.Ordering.TheVariants.{Less}
use Rattle.std.specs.Ordering.{ordering_reverse}
use Rattle.std.specs.Cmp.{IsTotalOrder}

module _ {K : Type 0} where
  abbrev pub IsIn : K → List K → Type 0
  IsIn z [] = ⊥
  IsIn z (x ∷ xs) = (z ≡ x) ⊎ IsIn z xs

  pub is_in : (z : K) (xs : List K) → Contains xs z → IsIn z xs
  is_in z [] (k, l, e) = absurd (omega arith)
  is_in z (x ∷ xs) (zero, l, e) = inl (sym e)
  is_in z (x ∷ xs) (suc k, l, e) = inr (is_in z xs (k, omega arith, e))

  pub contained : (z : K) (xs : List K) → IsIn z xs → Contains xs z
  contained z [] h = absurd h
  contained z (x ∷ xs) (inl e) = (zero, omega arith, sym e)
  contained z (x ∷ xs) (inr h) = let t = contained z xs h in (suc t.0, (let l = t.1 in omega arith), t.2)

  -- the first of a list
  pub contains_first : (z : K) (xs : List K) → Contains (z ∷ xs) z
  contains_first z xs = (zero, omega arith, refl)

  pub in_left : (z : K) (xs ys : List K) → IsIn z xs → IsIn z (xs ++ ys)
  in_left z [] ys h = absurd h
  in_left z (x ∷ xs) ys (inl e) = inl e
  in_left z (x ∷ xs) ys (inr h) = inr (in_left z xs ys h)

  pub in_right : (z : K) (xs ys : List K) → IsIn z ys → IsIn z (xs ++ ys)
  in_right z [] ys h = h
  in_right z (x ∷ xs) ys h = inr (in_right z xs ys h)

  pub in_append : (z : K) (xs ys : List K) → IsIn z (xs ++ ys) → IsIn z xs ⊎ IsIn z ys
  in_append z [] ys h = inr h
  in_append z (x ∷ xs) ys (inl e) = inl (inl e)
  in_append z (x ∷ xs) ys (inr h) = go (in_append z xs ys h)
    where
      go : IsIn z xs ⊎ IsIn z ys → IsIn z (x ∷ xs) ⊎ IsIn z ys
      go (inl k) = inl (inr k)
      go (inr k) = inr k

  pub all-append : (P : K → Type 0) (xs ys : List K) → AllByRecursion P xs → AllByRecursion P ys → AllByRecursion P (xs ++ ys)
  all-append P [] ys h k = k
  all-append P (x ∷ xs) ys h k = (h.0, all-append P xs ys h.1 k)

  pub all-front : (P : K → Type 0) (xs ys : List K) → AllByRecursion P (xs ++ ys) → AllByRecursion P xs
  all-front P [] ys h = tt
  all-front P (x ∷ xs) ys h = (h.0, all-front P xs ys h.1)

  pub all-back : (P : K → Type 0) (xs ys : List K) → AllByRecursion P (xs ++ ys) → AllByRecursion P ys
  all-back P [] ys h = h
  all-back P (x ∷ xs) ys h = all-back P xs ys h.1

module _ {K : Type 0} (R : K → K → Ordering) (total : IsTotalOrder R) where
  less_in : (x z : K) (xs : List K) → AllByRecursion (λ y. R x y ≡ Less) xs → IsIn z xs → R x z ≡ Less
  less_in x z [] a h = absurd h
  less_in x z (y ∷ ys) a (inl e) = rw e a.0
  less_in x z (y ∷ ys) a (inr h) = less_in x z ys a.1 h

  not_both : (x y : K) → R x y ≡ Less → R y x ≡ Less → ⊥
  not_both x y e f = let h : Less ≡ ordering_reverse Less = sym e ∙ total.antisymm x y ∙ ap ordering_reverse f in absurd (cc)

  pub sorted-same : (xs ys : List K) → IsStrictlySortedBy R xs → IsStrictlySortedBy R ys → ((z : K) → IsIn z xs → IsIn z ys) → ((z : K) → IsIn z ys → IsIn z xs) → xs ≡ ys
  unfolding IsStrictlySortedBy
  sorted-same [] [] s t f h = refl
  sorted-same [] (y ∷ ys) s t f h = absurd (h y (inl refl))
  sorted-same (x ∷ xs) [] s t f h = absurd (f x (inl refl))
  sorted-same (x ∷ xs) (y ∷ ys) s t f h =
      let e = first (f x (inl refl)) (h y (inl refl)) in
      let r = sorted-same xs ys s.1 t.1 (λ z i. keep xs ys x y z s.0 e i (f z (inr i))) (λ z i. keep ys xs y x z t.0 (sym e) i (h z (inr i))) in
      (λ i. e i ∷ r i)
    where
      first : (x ≡ y) ⊎ IsIn x ys → (y ≡ x) ⊎ IsIn y xs → x ≡ y
      first (inl e) k = e
      first (inr i) (inl e) = sym e
      first (inr i) (inr j) = absurd (not_both x y (less_in x y xs s.0 j) (less_in y x ys t.0 i))

      keep : (cs bs : List K) (a b z : K) → AllByRecursion (λ y. R a y ≡ Less) cs → a ≡ b → IsIn z cs → (z ≡ b) ⊎ IsIn z bs → IsIn z bs
      keep cs bs a b z l e i (inl q) =
          let n : R a z ≡ Less = less_in a z cs l i in
          let m : R a a ≡ Less = rw (q ∙ sym e) at n in
          absurd (not_both a a m m)
      keep cs bs a b z l e i (inr j) = j

  -- there is one ascending list of those that have a property
  pub one_list : (P : K → Type 0) (xs ys : List K) → IsStrictlySortedBy R xs → IsStrictlySortedBy R ys → ((n : K) → Contains xs n ↔ P n) → ((n : K) → Contains ys n ↔ P n) → xs ≡ ys
  one_list P xs ys s t f g =
      sorted-same xs ys s t
      (λ z h. is_in z ys ((g z).1 ((f z).0 (contained z xs h))))
      (λ z h. is_in z xs ((f z).1 ((g z).0 (contained z ys h))))
