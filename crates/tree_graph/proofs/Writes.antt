-- Lists in which an element is written.
use Rattle.std.proofs.Common.{◌≡◌, ℕ, zero, suc, ◌<◌, List, [], ◌∷◌, length, Some, refl, arith}
use Rattle.std.specs.Prelude.{slice_get, slice_set}

pub get_set : {X : Type 0} (xs : List X) (i : ℕ) (x : X) → i < length xs → slice_get (slice_set xs i x) i ≡ Some x
get_set [] i x l = absurd (omega (arith, l))
get_set (y ∷ xs) zero x l = refl
get_set (y ∷ xs) (suc i) x l = get_set xs i x (omega (arith, l))

pub get_other : {X : Type 0} (xs : List X) (i k : ℕ) (x : X) → ((k ≡ i) → ⊥) → slice_get (slice_set xs i x) k ≡ slice_get xs k
get_other [] i k x d = refl
get_other (y ∷ xs) zero zero x d = absurd (d refl)
get_other (y ∷ xs) zero (suc k) x d = refl
get_other (y ∷ xs) (suc i) zero x d = refl
get_other (y ∷ xs) (suc i) (suc k) x d = get_other xs i k x (λ e. d (omega (arith, e)))
