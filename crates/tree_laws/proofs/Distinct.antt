-- Lists of distinct numbers, and their parts.
use Rattle.std.proofs.Common.{◌≡◌, ℕ, ◌+◌, List, ◌++◌, length, refl, ◌∙◌, arith, length-append}
use Rattle.std.specs.Prelude.{Contains}
use Rattle.std.proofs.lemmas.List.{get_or_append_left, get_or-append-add}
use Rattle.tree_laws.specs.WholeBodies.{AreDistinct}

-- an element's position in a longer list
in_front : (xs ys : List ℕ) (a : ℕ) (m : Contains xs a) → (n : Contains (xs ++ ys) a) × (n.0 ≡ m.0)
in_front xs ys a m = ((m.0, omega (arith, m.1, length-append xs ys), get_or_append_left xs ys a m.0 m.1 ∙ m.2), refl)

in_back : (xs ys : List ℕ) (a : ℕ) (m : Contains ys a) → (n : Contains (xs ++ ys) a) × (n.0 ≡ length xs + m.0)
in_back xs ys a m = ((length xs + m.0, omega (arith, m.1, length-append xs ys), get_or-append-add xs ys m.0 a ∙ m.2), refl)

pub front_distinct : (xs ys : List ℕ) → AreDistinct (xs ++ ys) → AreDistinct xs
front_distinct xs ys d a m n =
    let u = in_front xs ys a m in
    let v = in_front xs ys a n in
    omega (arith, u.1, v.1, d a u.0 v.0)

pub back_distinct : (xs ys : List ℕ) → AreDistinct (xs ++ ys) → AreDistinct ys
back_distinct xs ys d a m n =
    let u = in_back xs ys a m in
    let v = in_back xs ys a n in
    omega (arith, u.1, v.1, d a u.0 v.0)

pub parts_apart : (xs ys : List ℕ) (a : ℕ) → AreDistinct (xs ++ ys) → Contains xs a → Contains ys a → ⊥
parts_apart xs ys a d m n =
    let u = in_front xs ys a m in
    let v = in_back xs ys a n in
    omega (arith, m.1, u.1, v.1, d a u.0 v.0)
