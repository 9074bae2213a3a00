-- What is known of the first numbers, and of one more.
use Rattle.std.proofs.Common.{◌≡◌, ℕ, zero, suc, ◌+◌, Some, List, [], ◌∷◌, ◌++◌, length, slice_get, sym, subst, arith, length-append}
use Rattle.rng_model.specs.Patterns.{Schema}
use Rattle.rng_model.specs.Names.{Name}
use Rattle.pattern_intern.specs.Stored.{Stored, tree_at}
use Rattle.restrictions.specs.Described.{AreDescribed, IsDescribed}
use Rattle.restrictions.specs.Shared.{AreStanding, IsStanding}
use Rattle.restrictions.specs.declared.described.Described.{Described}
use Rattle.restrictions.specs.declared.shared.Sought.{Sought}
use Rattle.restrictions.specs.declared.standing.Standing.{Standing}

module _ (X : Type 0) (P : ℕ → X → Type 0) where
  -- P holds of each element at its place, also of one more
  one_more : (xs : List X) (x : X) (n : ℕ) → ((i : ℕ) (y : X) → slice_get xs i ≡ Some y → P (n + i) y) → P (n + length xs) x →
      (i : ℕ) (y : X) → slice_get (xs ++ x ∷ []) i ≡ Some y → P (n + i) y
  one_more [] x n each last zero y e = let f : x ≡ y = cc in subst (P (n + 0)) f last
  one_more [] x n each last (suc i) y e = absurd (cc)
  one_more (z ∷ xs) x n each last zero y e = each zero y e
  one_more (z ∷ xs) x n each last (suc i) y e =
      let a : n + suc i ≡ suc n + i = omega arith in
      let b : n + suc (length xs) ≡ suc n + length xs = omega arith in
      subst (λ k. P k y) (sym a)
      (one_more xs x (suc n) (λ j w f. let c : n + suc j ≡ suc n + j = omega arith in subst (λ k. P k w) c (each (suc j) w f)) (subst (λ k. P k x) b last) i y e)

  pub pushed : (xs : List X) (x : X) (n : ℕ) → length xs ≡ n → ((i : ℕ) (y : X) → slice_get xs i ≡ Some y → P i y) → P n x →
      (i : ℕ) (y : X) → slice_get (xs ++ x ∷ []) i ≡ Some y → P i y
  pushed xs x n l each last i y e =
      let a : 0 + i ≡ i = omega arith in
      let b : n ≡ 0 + length xs = omega (arith, l) in
      subst (λ k. P k y) a (one_more xs x 0 (λ j w f. let c : j ≡ 0 + j = omega arith in subst (λ k. P k w) c (each j w f)) (subst (λ k. P k x) b last) i y e)

pub described_more : (s : Stored) (n : ℕ) (xs : List Described) (x : Described) → AreDescribed s n xs → IsDescribed (tree_at s n) x → AreDescribed s (n + 1) (xs ++ x ∷ [])
described_more s n xs x known next =
    let l = known.same_length in
    let m = length-append xs (x ∷ []) in
    record { same_length = omega (arith, l, m); each = pushed Described (λ i y. IsDescribed (tree_at s i) y) xs x n l known.each next }

pub standing_more : (g : Schema) (k : Sought) (names : List Name) (s : Stored) (n : ℕ) (xs : List Standing) (x : Standing) → AreStanding g k names s n xs → IsStanding g k names (tree_at s n) x → AreStanding g k names s (n + 1) (xs ++ x ∷ [])
standing_more g k names s n xs x known next =
    let l = known.same_length in
    let m = length-append xs (x ∷ []) in
    record { same_length = omega (arith, l, m); each = pushed Standing (λ i y. IsStanding g k names (tree_at s i) y) xs x n l known.each next }
