-- The items of a list by their places.
use Rattle.std.proofs.Common.{◌≡◌, ℕ, zero, suc, ◌<◌, List, [], ◌∷◌, ◌++◌, length, refl, arith, Some, slice_get}

-- an item of a list with one more is one of the list or the new one
pub data IsOneMore {X : Type 0} (xs : List X) (y : X) (k : ℕ) (x : X) : Type 0 where
  old : slice_get xs k ≡ Some x → IsOneMore xs y k x
  new : k ≡ length xs → x ≡ y → IsOneMore xs y k x

pub some_same : {X : Type 0} (x y : X) → Some x ≡ Some y → x ≡ y
some_same x y e = cc

pub one_more : {X : Type 0} (xs : List X) (y : X) (k : ℕ) (x : X) → slice_get (xs ++ (y ∷ [])) k ≡ Some x → IsOneMore xs y k x
one_more [] y zero x e = new refl (cc)
one_more [] y (suc k) x e = absurd (cc)
one_more (z ∷ xs) y zero x e = old e
one_more (z ∷ xs) y (suc k) x e = go (one_more xs y k x e)
  where
    go : IsOneMore xs y k x → IsOneMore (z ∷ xs) y (suc k) x
    go (old f) = old f
    go (new f h) = new (omega arith) h

pub get_within : {X : Type 0} (xs : List X) (k : ℕ) (x : X) → slice_get xs k ≡ Some x → k < length xs
get_within [] k x e = absurd (cc)
get_within (y ∷ xs) zero x e = omega arith
get_within (y ∷ xs) (suc k) x e = let l = get_within xs k x e in omega arith

pub get_left : {X : Type 0} (xs ys : List X) (k : ℕ) (x : X) → slice_get xs k ≡ Some x → slice_get (xs ++ ys) k ≡ Some x
get_left [] ys k x e = absurd (cc)
get_left (z ∷ xs) ys zero x e = e
get_left (z ∷ xs) ys (suc k) x e = get_left xs ys k x e

pub get_seam : {X : Type 0} (xs : List X) (x : X) (ys : List X) → slice_get (xs ++ (x ∷ ys)) (length xs) ≡ Some x
get_seam [] x ys = refl
get_seam (z ∷ xs) x ys = get_seam xs x ys
