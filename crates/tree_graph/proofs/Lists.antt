-- Lists that go on with more.
use Rattle.std.proofs.Common.{◌≡◌, ℕ, zero, suc, ◌+◌, ◌<◌, ◌≤◌, List, [], ◌∷◌, ◌++◌, length, Some, refl, sym, ap, ◌∙◌, arith, append_assoc, append-nil, length-append}
use Rattle.std.specs.Prelude.{slice_get}
use Rattle.tree_graph.specs.States.{Begins}

pub begins_same : {X : Type 0} (xs : List X) → Begins xs xs
begins_same xs = ([], sym (append-nil xs))

pub begins_more : {X : Type 0} (xs ys : List X) → Begins xs (xs ++ ys)
begins_more xs ys = (ys, refl)

pub begins_then : {X : Type 0} (xs ys zs : List X) → Begins xs ys → Begins ys zs → Begins xs zs
begins_then xs ys zs (m, e) (n, f) = (m ++ n, f ∙ ap (λ l. l ++ n) e ∙ append_assoc xs m n)

pub begins_length : {X : Type 0} (xs ys : List X) → Begins xs ys → length xs ≤ length ys
begins_length xs ys (m, e) = let f : length ys ≡ length xs + length m = ap length e ∙ length-append xs m in omega arith

pub get_front : {X : Type 0} (xs ys : List X) (i : ℕ) (x : X) → slice_get xs i ≡ Some x → slice_get (xs ++ ys) i ≡ Some x
get_front [] ys i x h = absurd (cc)
get_front (y ∷ xs) ys zero x h = h
get_front (y ∷ xs) ys (suc i) x h = get_front xs ys i x h

pub get_begins : {X : Type 0} (xs ys : List X) (i : ℕ) (x : X) → Begins xs ys → slice_get xs i ≡ Some x → slice_get ys i ≡ Some x
get_begins xs ys i x (m, e) h = rw e (get_front xs m i x h)

pub get_last : {X : Type 0} (xs : List X) (x : X) → slice_get (xs ++ x ∷ []) (length xs) ≡ Some x
get_last [] x = refl
get_last (y ∷ xs) x = get_last xs x

-- what stands in the front of a list
pub get_in_front : {X : Type 0} (xs ys : List X) (i : ℕ) (y : X) → slice_get (xs ++ ys) i ≡ Some y → i < length xs → slice_get xs i ≡ Some y
get_in_front [] ys i y h less = absurd (omega (arith, less))
get_in_front (z ∷ xs) ys zero y h less = h
get_in_front (z ∷ xs) ys (suc i) y h less = get_in_front xs ys i y h (omega (arith, less))

pub get_before : {X : Type 0} (xs ys : List X) (i : ℕ) (y : X) → Begins xs ys → slice_get ys i ≡ Some y → i < length xs → slice_get xs i ≡ Some y
get_before xs ys i y (m, e) h less = get_in_front xs m i y (rw e at h) less
