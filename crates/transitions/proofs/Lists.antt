-- What stands in lists that are written or cut.
use Rattle.std.proofs.Common.{Result, Ok, Err, OnOk, map, take, drop, ◌≡◌, ℕ, zero, suc, ◌+◌, ◌<◌, ◌≤◌, ◌⊎◌, inl, inr, Bool, Some, List, [], ◌∷◌, ◌++◌, length, slice_get, get_or, set, refl, sym, ap, subst, arith}

-- what stands at a place within
pub get_of : {X : Type 0} (xs : List X) (i : ℕ) → i < length xs → (x : X) × (slice_get xs i ≡ Some x)
get_of [] i l = absurd (omega arith)
get_of (x ∷ xs) zero l = (x, refl)
get_of (x ∷ xs) (suc i) l = get_of xs i (omega arith)

pub get_here : {X : Type 0} (xs : List X) (i : ℕ) (d : X) → i < length xs → slice_get xs i ≡ Some (get_or xs i d)
get_here [] i d l = absurd (omega arith)
get_here (x ∷ xs) zero d l = refl
get_here (x ∷ xs) (suc i) d l = get_here xs i d (omega arith)

-- one thing stands at a place
pub same_row : {X : Type 0} (xs : List X) (i : ℕ) (x y : X) → slice_get xs i ≡ Some x → slice_get xs i ≡ Some y → y ≡ x
same_row xs i x y h e = cc

-- what stands in a list that is written at a place
pub slice_get-set : {X : Type 0} (xs : List X) (n k : ℕ) (x y : X) → slice_get (set xs n x) k ≡ Some y → (slice_get xs k ≡ Some y) ⊎ ((k ≡ n) × (x ≡ y))
slice_get-set [] n k x y h = inl h
slice_get-set (z ∷ xs) zero zero x y h = inr (refl, cc)
slice_get-set (z ∷ xs) zero (suc k) x y h = inl h
slice_get-set (z ∷ xs) (suc n) zero x y h = inl h
slice_get-set (z ∷ xs) (suc n) (suc k) x y h = go (slice_get-set xs n k x y h)
  where
    go : (slice_get xs k ≡ Some y) ⊎ ((k ≡ n) × (x ≡ y)) → (slice_get xs k ≡ Some y) ⊎ ((suc k ≡ suc n) × (x ≡ y))
    go (inl e) = inl e
    go (inr (e, f)) = inr (ap suc e, f)

pub slice_get-other : {X : Type 0} (xs : List X) (n k : ℕ) (x : X) → k < n → slice_get (set xs n x) k ≡ slice_get xs k
slice_get-other [] n k x l = refl
slice_get-other (z ∷ xs) zero k x l = absurd (omega arith)
slice_get-other (z ∷ xs) (suc n) zero x l = refl
slice_get-other (z ∷ xs) (suc n) (suc k) x l = slice_get-other xs n k x (omega arith)

pub slice_get-same : {X : Type 0} (xs : List X) (n : ℕ) (x : X) → n < length xs → slice_get (set xs n x) n ≡ Some x
slice_get-same [] n x l = absurd (omega arith)
slice_get-same (z ∷ xs) zero x l = refl
slice_get-same (z ∷ xs) (suc n) x l = slice_get-same xs n x (omega arith)

length-set : {X : Type 0} (xs : List X) (n : ℕ) (x : X) → length (set xs n x) ≡ length xs
length-set [] n x = refl
length-set (z ∷ xs) zero x = refl
length-set (z ∷ xs) (suc n) x = ap suc (length-set xs n x)

-- one thing more
pub slice_get-push : {X : Type 0} (xs : List X) (x y : X) (k : ℕ) → slice_get (xs ++ x ∷ []) k ≡ Some y → (slice_get xs k ≡ Some y) ⊎ ((k ≡ length xs) × (x ≡ y))
slice_get-push [] x y zero h = inr (refl, cc)
slice_get-push [] x y (suc k) h = absurd (cc)
slice_get-push (z ∷ xs) x y zero h = inl h
slice_get-push (z ∷ xs) x y (suc k) h = go (slice_get-push xs x y k h)
  where
    go : (slice_get xs k ≡ Some y) ⊎ ((k ≡ length xs) × (x ≡ y)) → (slice_get xs k ≡ Some y) ⊎ ((suc k ≡ suc (length xs)) × (x ≡ y))
    go (inl e) = inl e
    go (inr (e, f)) = inr (ap suc e, f)

pub on_ok_map : {X Y : Type 0} (r : Result X Y) (P Q : Type 0) → (P → Q) → OnOk r P → OnOk r Q
on_ok_map (Ok x) P Q f h = f h
on_ok_map (Err y) P Q f h = h

cut_set : (n : ℕ) (xs : List (List Bool)) (i : ℕ) (d : List Bool) → i < length xs →
    set (map (take n) (take i xs) ++ drop i xs) i (take n (get_or (map (take n) (take i xs) ++ drop i xs) i d)) ≡ map (take n) (take (suc i) xs) ++ drop (suc i) xs
cut_set n [] i d l = absurd (omega arith)
cut_set n (x ∷ xs) zero d l = refl
cut_set n (x ∷ xs) (suc i) d l = ap (λ zs. take n x ∷ zs) (cut_set n xs i d (omega arith))

pub cut_step : (n : ℕ) (xs ys : List (List Bool)) (i : ℕ) (d : List Bool) → i < length xs → ys ≡ map (take n) (take i xs) ++ drop i xs →
    set ys i (take n (get_or ys i d)) ≡ map (take n) (take (i + 1) xs) ++ drop (i + 1) xs
cut_step n xs ys i d l e =
    let f : suc i ≡ i + 1 = omega arith in
    subst (λ k. set ys i (take n (get_or ys i d)) ≡ map (take n) (take k xs) ++ drop k xs) f
    (subst (λ zs. set zs i (take n (get_or zs i d)) ≡ map (take n) (take (suc i) xs) ++ drop (suc i) xs) (sym e) (cut_set n xs i d l))

pub cut_end : (n : ℕ) (xs : List (List Bool)) (i : ℕ) → length xs ≤ i → map (take n) (take i xs) ++ drop i xs ≡ map (take n) xs
cut_end n [] zero l = refl
cut_end n [] (suc i) l = refl
cut_end n (x ∷ xs) zero l = absurd (omega arith)
cut_end n (x ∷ xs) (suc i) l = ap (λ zs. take n x ∷ zs) (cut_end n xs i (omega arith))

pub length-set_same : (xs : List (List Bool)) (n : ℕ) (x : List Bool) → length (set xs n x) ≡ length xs
length-set_same = length-set
