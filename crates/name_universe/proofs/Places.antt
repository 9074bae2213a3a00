-- Places of values that are taken in once.
use Rattle.std.proofs.Common.{◌≡◌, ℕ, zero, suc, ◌+◌, ◌<◌, ◌⊎◌, inl, inr, Bool, true, false, not, cond, ◌&&◌, ◌||◌, List, [], ◌∷◌, ◌++◌, length, slice_get, Some, refl, sym, ◌∙◌, ap, subst, arith, true≢false, if◌then◌else◌}
use Rattle.std.specs.List.{list_any, position_or_len}
use Rattle.std.proofs.lemmas.List.Folds.{list_any_at}
use Rattle.std.proofs.lemmas.Option.{slice_get_within, get_or_from_slice_get}
use Rattle.indexmap.specs.IndexSet.{insert_key}
use Rattle.pattern_intern.specs.Interned.{IsTaken}
use Rattle.text_atoms.proofs.Words.{by_test}
use Rattle.name_universe.specs.Partitions.{AreDistinct}

pub get_front : {X : Type 0} (xs ys : List X) (i : ℕ) (x : X) → slice_get xs i ≡ Some x → slice_get (xs ++ ys) i ≡ Some x
get_front [] ys i x e = cc
get_front (y ∷ xs) ys zero x e = e
get_front (y ∷ xs) ys (suc i) x e = get_front xs ys i x e

pub get_last : {X : Type 0} (xs : List X) (x : X) → slice_get (xs ++ x ∷ []) (length xs) ≡ Some x
get_last [] x = refl
get_last (y ∷ xs) x = get_last xs x

pub get_cases : {X : Type 0} (xs : List X) (x y : X) (i : ℕ) → slice_get (xs ++ x ∷ []) i ≡ Some y → (slice_get xs i ≡ Some y) ⊎ ((i ≡ length xs) × (y ≡ x))
get_cases [] x y zero e = let same : y ≡ x = cc in inr (refl, same)
get_cases [] x y (suc i) e = cc
get_cases (z ∷ xs) x y zero e = inl e
get_cases (z ∷ xs) x y (suc i) e = elim (get_cases xs x y i e) [ inl f ↦ inl f | inr (h, f) ↦ inr (ap suc h, f) ]

some_at : {X : Type 0} (p : X → Bool) (xs : List X) (k : ℕ) (x : X) → slice_get xs k ≡ Some x → p x ≡ true → list_any p xs ≡ true
some_at p xs k x h e = list_any_at p xs k x (slice_get_within xs k x h) (ap p (get_or_from_slice_get xs k x x h) ∙ e)

none_first : {X : Type 0} (p : X → Bool) (xs : List X) → list_any p xs ≡ false → position_or_len p xs ≡ length xs
none_first p [] h = refl
none_first p (x ∷ xs) h = by_test (p x)
    (λ e. absurd (true≢false (sym (ap (λ c. c || list_any p xs) e) ∙ h)))
    (λ e. ap (λ c. cond (not c) (1 + position_or_len p xs) 0) e ∙ (let k = none_first p xs (sym (ap (λ c. c || list_any p xs) e) ∙ h) in omega (arith, k)))

-- what an index set says of a value that it takes in, where its test tells values apart
module _ {X : Type 0} (eq' : X → X → Bool) (same : (x : X) → eq' x x ≡ true) (tells : (x y : X) → eq' x y ≡ true → x ≡ y) where
  taken_by : (old new : List X) (x : X) (id : ℕ) (b : Bool) → list_any (eq' x) old ≡ b → new ≡ insert_key eq' old x → id ≡ position_or_len (eq' x) old →
      (k : X) → slice_get new id ≡ Some k → eq' x k ≡ true → IsTaken (λ t. t) old x id new
  taken_by old new x id true e n i k s t =
      let m : new ≡ old = n ∙ ap (λ b. if b then old else old ++ x ∷ []) e in
      inl (record { key = k; there = subst (λ l. slice_get l id ≡ Some k) m s; same = sym (tells x k t); keys = m })
  taken_by old new x id false e n i k s t = inr (record {
    absent = λ j y h v. true≢false (sym (some_at (eq' x) old j y h (subst (λ (z : X). eq' x z ≡ true) (sym v) (same x))) ∙ e);
    last = i ∙ none_first (eq' x) old e;
    keys = n ∙ ap (λ b. if b then old else old ++ x ∷ []) e;
  })

  pub taken : (old new : List X) (x : X) (id : ℕ) → new ≡ insert_key eq' old x → id ≡ position_or_len (eq' x) old → (k : X) → slice_get new id ≡ Some k → eq' x k ≡ true → IsTaken (λ t. t) old x id new
  taken old new x id = taken_by old new x id (list_any (eq' x) old) refl

module _ {X : Type 0} (old new : List X) (x : X) (id : ℕ) where
  pub taken-at : IsTaken (λ t. t) old x id new → slice_get new id ≡ Some x
  taken-at (inl t) = subst (λ (ys : List X). slice_get ys id ≡ Some x) (sym t.keys) (t.there ∙ ap Some t.same)
  taken-at (inr t) = rw (t.keys, t.last) (get_last old x)

  pub taken-kept : IsTaken (λ t. t) old x id new → (k : ℕ) (y : X) → slice_get old k ≡ Some y → slice_get new k ≡ Some y
  taken-kept (inl t) k y e = subst (λ (ys : List X). slice_get ys k ≡ Some y) (sym t.keys) e
  taken-kept (inr t) k y e = rw t.keys (get_front old (x ∷ []) k y e)

  pub taken-cases : IsTaken (λ t. t) old x id new → (k : ℕ) (y : X) → slice_get new k ≡ Some y → (slice_get old k ≡ Some y) ⊎ (y ≡ x)
  taken-cases (inl t) k y e = inl (subst (λ (ys : List X). slice_get ys k ≡ Some y) t.keys e)
  taken-cases (inr t) k y e = elim (get_cases old x y k (subst (λ (ys : List X). slice_get ys k ≡ Some y) t.keys e)) [ inl f ↦ inl f | inr (h, f) ↦ inr f ]

  pub taken-distinct : IsTaken (λ t. t) old x id new → AreDistinct old → AreDistinct new
  taken-distinct (inl t) d = subst (λ (ys : List X). AreDistinct ys) (sym t.keys) d
  taken-distinct (inr t) d = λ i j y e f. both i j y (get_cases old x y i (rw t.keys at e)) (get_cases old x y j (rw t.keys at f))
    where
      both : (i j : ℕ) (y : X) → (slice_get old i ≡ Some y) ⊎ ((i ≡ length old) × (y ≡ x)) → (slice_get old j ≡ Some y) ⊎ ((j ≡ length old) × (y ≡ x)) → i ≡ j
      both i j y (inl e) (inl f) = d i j y e f
      both i j y (inl e) (inr (h, same)) = absurd (t.absent i y e same)
      both i j y (inr (h, same)) (inl f) = absurd (t.absent j y f same)
      both i j y (inr (h, e)) (inr (k, f)) = h ∙ sym k
