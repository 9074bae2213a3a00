-- Lists by index: after a push, a pop and a write.
use Rattle.std.proofs.Common.{◌≡◌, ℕ, zero, suc, ◌+◌, ◌<◌, ◌⊎◌, inl, inr, Bool, true, false, not, cond, get_or, List, [], ◌∷◌, ◌++◌, Some, length, slice_get, refl, sym, ◌∙◌, ap, subst, ◌↔◌, arith}
use Rattle.std.specs.Prelude.{Result, Ok, Err, OnOk}
use Rattle.std.proofs.Math.ListN.{set, replicate}
use Rattle.std.specs.List.{count_by}
use Rattle.std.proofs.lemmas.List.Sums.{sum_by-set}
use Rattle.std.proofs.lemmas.Option.{same_Some, slice_get_within, slice_get_read, get_or_from_slice_get}

module _ {X : Type 0} where
  pub get_old : (xs : List X) (y : X) (k : ℕ) (x : X) → slice_get xs k ≡ Some x → slice_get (xs ++ y ∷ []) k ≡ Some x
  get_old [] y k x e = absurd (cc)
  get_old (z ∷ zs) y zero x e = e
  get_old (z ∷ zs) y (suc k) x e = get_old zs y k x e

  pub get_last : (xs : List X) (y : X) → slice_get (xs ++ y ∷ []) (length xs) ≡ Some y
  get_last [] y = refl
  get_last (z ∷ zs) y = get_last zs y

  pub get_push : (xs : List X) (y : X) (k : ℕ) (x : X) → slice_get (xs ++ y ∷ []) k ≡ Some x → (slice_get xs k ≡ Some x) ⊎ ((k ≡ length xs) × (x ≡ y))
  get_push [] y zero x e = inr (refl, (cc))
  get_push [] y (suc k) x e = absurd (cc)
  get_push (z ∷ zs) y zero x e = inl e
  get_push (z ∷ zs) y (suc k) x e = go (get_push zs y k x e)
    where
      go : (slice_get zs k ≡ Some x) ⊎ ((k ≡ length zs) × (x ≡ y)) → (slice_get zs k ≡ Some x) ⊎ ((suc k ≡ length (z ∷ zs)) × (x ≡ y))
      go (inl h) = inl h
      go (inr h) = inr (ap suc h.0, h.1)

  pub get_set : (xs : List X) (i : ℕ) (y : X) → i < length xs → slice_get (set xs i y) i ≡ Some y
  get_set [] i y l = absurd (omega arith)
  get_set (z ∷ zs) zero y l = refl
  get_set (z ∷ zs) (suc i) y l = get_set zs i y (omega arith)

  pub get_set_other : (xs : List X) (i j : ℕ) (y : X) → (i ≡ j → ⊥) → slice_get (set xs i y) j ≡ slice_get xs j
  get_set_other [] i j y n = refl
  get_set_other (z ∷ zs) zero zero y n = absurd (n refl)
  get_set_other (z ∷ zs) zero (suc j) y n = refl
  get_set_other (z ∷ zs) (suc i) zero y n = refl
  get_set_other (z ∷ zs) (suc i) (suc j) y n = get_set_other zs i j y (λ e. n (ap suc e))

-- an element that is read
pub read_at : {X : Type 0} (xs : List X) (i : ℕ) (r b : X) → i < length xs → r ≡ get_or xs i r → r ≡ b → slice_get xs i ≡ Some b
read_at xs i r b l e f = slice_get_read xs (length xs) i r refl l e ∙ ap Some f

pub same_or_not : (i j : ℕ) → (i ≡ j) ⊎ (i ≡ j → ⊥)
same_or_not zero zero = inl refl
same_or_not zero (suc j) = inr (λ e. (omega arith))
same_or_not (suc i) zero = inr (λ e. (omega arith))
same_or_not (suc i) (suc j) = go (same_or_not i j)
  where
    go : (i ≡ j) ⊎ (i ≡ j → ⊥) → (suc i ≡ suc j) ⊎ (suc i ≡ suc j → ⊥)
    go (inl e) = inl (ap suc e)
    go (inr n) = inr (λ e. n (omega arith))

-- one more is marked
pub count_set : (xs : List Bool) (i : ℕ) → slice_get xs i ≡ Some false → count_by not (set xs i true) + 1 ≡ count_by not xs
count_set xs i e =
    let h : count_by not (set xs i true) + cond (not (get_or xs i true)) 1 0 ≡ count_by not xs + 0 = sum_by-set (λ x. cond (not x) 1 0) xs i true true (slice_get_within xs i false e) in
    let f : get_or xs i true ≡ false = get_or_from_slice_get xs i false true e in
    let one : ℕ = 1 in
    let k : cond (not (get_or xs i true)) one 0 ≡ one = subst (λ b. cond (not b) one 0 ≡ one) (sym f) refl in
    omega (arith, h, k)

pub get_replicate : {X : Type 0} (n : ℕ) (x : X) (i : ℕ) (y : X) → slice_get (replicate n x) i ≡ Some y → x ≡ y
get_replicate zero x i y e = absurd (cc)
get_replicate (suc n) x zero y e = same_Some x y e
get_replicate (suc n) x (suc i) y e = get_replicate n x i y e

pub none_marked : (xs : List Bool) (n i : ℕ) → xs ≡ replicate n false → slice_get xs i ≡ Some true → ⊥
none_marked xs n i e h = let f : false ≡ true = get_replicate n false i true (subst (λ ys. slice_get ys i ≡ Some true) e h) in cc

-- a mark that is read
pub read_mark : (A : Type 0) (xs : List Bool) (i : ℕ) (r : Bool) → i < length xs → r ≡ get_or xs i r → (slice_get xs i ≡ Some true) ↔ A → (r ≡ true) ↔ A
read_mark A xs i r l e h = ((λ t. h.0 (read_at xs i r true l e t)), (λ a. e ∙ get_or_from_slice_get xs i true r (h.1 a)))

-- two facts on a call that may fail, as one
pub both_ok : {T E A B C : Type 0} (r : Result T E) → (A → B → C) → OnOk r A → OnOk r B → OnOk r C
both_ok (Ok x) f a b = f a b
both_ok (Err e) f a b = tt

pub three_ok : {T E A B C D : Type 0} (r : Result T E) → (A → B → C → D) → OnOk r A → OnOk r B → OnOk r C → OnOk r D
three_ok (Ok x) f a b c = f a b c
three_ok (Err e) f a b c = tt

-- an element that is read with any other in its place
pub read_or : {X : Type 0} (xs : List X) (i : ℕ) (d b : X) → i < length xs → get_or xs i d ≡ b → slice_get xs i ≡ Some b
read_or [] i d b l e = absurd (omega arith)
read_or (x ∷ xs) zero d b l e = ap Some e
read_or (x ∷ xs) (suc i) d b l e = read_or xs i d b (omega arith) e
