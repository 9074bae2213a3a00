-- What stands in a list.
use Rattle.std.proofs.Common.{◌≡◌, ℕ, zero, suc, ◌<◌, ◌⊎◌, inl, inr, Bool, true, false, cond, ◌||◌, List, [], ◌∷◌, ◌++◌, map, length, slice_get, Some, None, refl, sym, ◌∙◌, ap, subst, arith, true≢false, Contains, if◌then◌else◌}
use Rattle.std.specs.List.{AllByRecursion, IsDistinct, list_any, filter}
use Rattle.std.specs.List.Sorted.{IsPermutation}
use Rattle.std.proofs.lemmas.List.Sorted.{Contains-permutation}
use Rattle.indexmap.specs.IndexSet.{insert_key}
use Rattle.pattern_intern.specs.declared.id.PatternId.{PatternId}
use Rattle.pattern_intern.specs.Gathered.{Has, same_number}
use Rattle.pattern_intern.proofs.Absent.{nat_tells}

next : {A B C : Type 0} → B ⊎ C → (A ⊎ B) ⊎ C
next (inl h) = inl (inr h)
next (inr h) = inr h

module _ {X : Type 0} where
  pub has_left : (xs ys : List X) (x : X) → Has xs x → Has (xs ++ ys) x
  has_left [] ys x h = absurd h
  has_left (y ∷ xs) ys x (inl e) = inl e
  has_left (y ∷ xs) ys x (inr h) = inr (has_left xs ys x h)

  pub has_right : (xs ys : List X) (x : X) → Has ys x → Has (xs ++ ys) x
  has_right [] ys x h = h
  has_right (y ∷ xs) ys x h = inr (has_right xs ys x h)

  pub has_either : (xs ys : List X) (x : X) → Has (xs ++ ys) x → Has xs x ⊎ Has ys x
  has_either [] ys x h = inr h
  has_either (y ∷ xs) ys x (inl e) = inl (inl e)
  has_either (y ∷ xs) ys x (inr h) = next (has_either xs ys x h)

  pub has_some : (xs : List X) (x : X) → Has xs x → 0 < length xs
  has_some [] x h = absurd h
  has_some (y ∷ xs) x h = omega arith

  pub has_place : (xs : List X) (x : X) → Has xs x → Contains xs x
  has_place [] x h = absurd h
  has_place (y ∷ xs) x (inl e) = (zero, omega arith, e)
  has_place (y ∷ xs) x (inr h) = let c = has_place xs x h in (suc c.0, (let l = c.1 in omega arith), c.2)

  pub place_has : (xs : List X) (x : X) → Contains xs x → Has xs x
  place_has [] x (k, l, e) = absurd (omega arith)
  place_has (y ∷ xs) x (zero, l, e) = inl e
  place_has (y ∷ xs) x (suc k, l, e) = inr (place_has xs x (k, omega arith, e))

  some_same : (x y : X) → Some x ≡ Some y → x ≡ y
  some_same x y e = ap (λ o. elim o as (λ o. X) [ None ↦ x | Some z ↦ z ]) e

  pub got_has : (xs : List X) (k : ℕ) (x : X) → slice_get xs k ≡ Some x → Has xs x
  got_has [] k x e = absurd (cc)
  got_has (y ∷ xs) zero x e = inl (some_same y x e)
  got_has (y ∷ xs) (suc k) x e = inr (got_has xs k x e)

  pub has_got : (xs : List X) (x : X) → Has xs x → (k : ℕ) × (k < length xs) × (slice_get xs k ≡ Some x)
  has_got [] x h = absurd h
  has_got (y ∷ xs) x (inl e) = (zero, omega arith, ap Some e)
  has_got (y ∷ xs) x (inr h) = let c = has_got xs x h in (suc c.0, (let l = c.1 in omega arith), c.2)

  pub got_before : (xs ys : List X) (k : ℕ) → k < length xs → slice_get (xs ++ ys) k ≡ slice_get xs k
  got_before [] ys k l = absurd (omega arith)
  got_before (x ∷ xs) ys zero l = refl
  got_before (x ∷ xs) ys (suc k) l = got_before xs ys k (omega arith)

  pub has_permuted : (xs ys : List X) (x : X) → IsPermutation xs ys → Has xs x → Has ys x
  has_permuted xs ys x p h = place_has ys x (Contains-permutation xs ys x p (has_place xs x h))

  pub all_has : (K : X → Type 0) (xs : List X) (x : X) → AllByRecursion K xs → Has xs x → K x
  all_has K [] x a h = absurd h
  all_has K (y ∷ xs) x a (inl e) = subst K e a.0
  all_has K (y ∷ xs) x a (inr h) = all_has K xs x a.1 h

  pub has_all : (K : X → Type 0) (xs : List X) → ((x : X) → Has xs x → K x) → AllByRecursion K xs
  has_all K [] f = tt
  has_all K (y ∷ xs) f = (f y (inl refl), has_all K xs (λ x h. f x (inr h)))

  module _ (p : X → Bool) where
    filtered_by : (b : Bool) (y : X) (ys : List X) (x : X) → p y ≡ b → (Has (filter p ys) x → Has ys x × (p x ≡ true)) → Has (cond b (y ∷ filter p ys) (filter p ys)) x → Has (y ∷ ys) x × (p x ≡ true)
    filtered_by true y ys x e f (inl i) = (inl i, subst (λ z. p z ≡ true) i e)
    filtered_by true y ys x e f (inr h) = let g = f h in (inr g.0, g.1)
    filtered_by false y ys x e f h = let g = f h in (inr g.0, g.1)

    pub filtered_has : (xs : List X) (x : X) → Has (filter p xs) x → Has xs x × (p x ≡ true)
    filtered_has [] x h = absurd h
    filtered_has (y ∷ xs) x h = filtered_by (p y) y xs x refl (filtered_has xs x) h

    kept_by : (b : Bool) (y : X) (ys : List X) (x : X) → p y ≡ b → (Has ys x → Has (filter p ys) x) → p x ≡ true → Has (y ∷ ys) x → Has (cond b (y ∷ filter p ys) (filter p ys)) x
    kept_by true y ys x e f t (inl i) = inl i
    kept_by true y ys x e f t (inr h) = inr (f h)
    kept_by false y ys x e f t (inl i) = absurd (true≢false (sym t ∙ ap p (sym i) ∙ e))
    kept_by false y ys x e f t (inr h) = f h

    pub kept_has : (xs : List X) (x : X) → p x ≡ true → Has xs x → Has (filter p xs) x
    kept_has [] x t h = absurd h
    kept_has (y ∷ xs) x t h = kept_by (p y) y xs x refl (kept_has xs x t) t h

    module _ (eq' : X → X → Bool) where
      distinct_by : (b : Bool) (y : X) (ys : List X) → AllByRecursion (λ z. eq' y z ≡ false) (filter p ys) → IsDistinct eq' (filter p ys) → IsDistinct eq' (cond b (y ∷ filter p ys) (filter p ys))
      unfolding IsDistinct
      distinct_by true y ys a d = (a, d)
      distinct_by false y ys a d = d

      pub distinct_filtered : (xs : List X) → IsDistinct eq' xs → IsDistinct eq' (filter p xs)
      unfolding IsDistinct
      distinct_filtered [] d = tt
      distinct_filtered (y ∷ xs) d =
          distinct_by (p y) y xs (has_all (λ z. eq' y z ≡ false) (filter p xs) (λ z h. all_has (λ z. eq' y z ≡ false) xs z d.0 (filtered_has xs z h).0)) (distinct_filtered xs d.1)

pub map_has : {X Y : Type 0} (f : X → Y) (xs : List X) (x : X) → Has xs x → Has (map f xs) (f x)
map_has f [] x h = absurd h
map_has f (y ∷ xs) x (inl e) = inl (ap f e)
map_has f (y ∷ xs) x (inr h) = inr (map_has f xs x h)

pub has_map : {X Y : Type 0} (f : X → Y) (xs : List X) (y : Y) → Has (map f xs) y → (x : X) × Has xs x × (f x ≡ y)
has_map f [] y h = absurd h
has_map f (x ∷ xs) y (inl e) = (x, inl refl, e)
has_map f (x ∷ xs) y (inr h) = let c = has_map f xs y h in (c.0, inr c.1, c.2)

-- numbers taken into an index set
tells : (a b : PatternId) → same_number a b ≡ true → a ≡ b
tells a b h = let x = nat_tells a.0 b.0 h in (λ i. record { 0 = x i })

any_by : (k x : PatternId) (ks : List PatternId) (b : Bool) → same_number k x ≡ b → (list_any (same_number k) ks ≡ true → Has ks k) → (b || list_any (same_number k) ks) ≡ true → Has (x ∷ ks) k
any_by k x ks true e f h = inl (sym (tells k x e))
any_by k x ks false e f h = inr (f h)

any_has : (k : PatternId) (ks : List PatternId) → list_any (same_number k) ks ≡ true → Has ks k
any_has k [] h = absurd (true≢false (sym h))
any_has k (x ∷ ks) h = any_by k x ks (same_number k x) refl (any_has k ks) h

module _ (ks : List PatternId) (k : PatternId) where
  abbrev inserted : Bool → List PatternId
  inserted b = if b then ks else ks ++ k ∷ []

  to_by : (b : Bool) (x : PatternId) → Has (inserted b) x → Has ks x ⊎ (k ≡ x)
  to_by true x h = inl h
  to_by false x h = last (has_either ks (k ∷ []) x h)
    where
      last : Has ks x ⊎ Has (k ∷ []) x → Has ks x ⊎ (k ≡ x)
      last (inl h) = inl h
      last (inr (inl e)) = inr e
      last (inr (inr n)) = absurd n

  pub inserted_to : (x : PatternId) → Has (insert_key same_number ks k) x → Has ks x ⊎ (k ≡ x)
  inserted_to x h = to_by (list_any (same_number k) ks) x h

  old_by : (b : Bool) (x : PatternId) → Has ks x → Has (inserted b) x
  old_by true x h = h
  old_by false x h = has_left ks (k ∷ []) x h

  pub inserted_old : (x : PatternId) → Has ks x → Has (insert_key same_number ks k) x
  inserted_old x h = old_by (list_any (same_number k) ks) x h

  new_by : (b : Bool) → list_any (same_number k) ks ≡ b → Has (inserted b) k
  new_by true e = any_has k ks e
  new_by false e = has_right ks (k ∷ []) k (inl refl)

  pub inserted_new : Has (insert_key same_number ks k) k
  inserted_new = new_by (list_any (same_number k) ks) refl

  at_by : (b : Bool) (j : ℕ) → j < length ks → slice_get (inserted b) j ≡ slice_get ks j
  at_by true j l = refl
  at_by false j l = got_before ks (k ∷ []) j l

  pub inserted_at : (j : ℕ) → j < length ks → slice_get (insert_key same_number ks k) j ≡ slice_get ks j
  inserted_at j l = at_by (list_any (same_number k) ks) j l
