-- The bits of words as truth values.
use Rattle.std.proofs.Common.{◌≡◌, ◌≢◌, ℕ, zero, suc, ◌-◌, ◌<◌, ◌*◌, ◌^◌, ◌%◌, ◌==◌, true, false, not, ◌&&◌, ◌||◌, refl, ap, ◌∙◌, arith, bit_and, bit_or, w64}
use Rattle.std.specs.Prelude.{min, max}
use Rattle.std.specs.Int.{bit_at, bit_not}
use Rattle.std.proofs.lemmas.Nat.{one_shl}
use Rattle.std.proofs.lemmas.Nat.Bits.{bit_at_and, bit_at_or, bit_at_not, bit_at_ones, bit_at-lt, bit_at-pow_same, bit_at-pow_other}

max_one : (a b : ℕ) → a < 2 → b < 2 → (max a b == 1) ≡ ((a == 1) || (b == 1))
max_one zero zero h k = refl
max_one zero (suc zero) h k = refl
max_one zero (suc (suc b)) h k = absurd (omega (arith, k))
max_one (suc zero) zero h k = refl
max_one (suc zero) (suc zero) h k = refl
max_one (suc zero) (suc (suc b)) h k = absurd (omega (arith, k))
max_one (suc (suc a)) b h k = absurd (omega (arith, h))

min_one : (a b : ℕ) → a < 2 → b < 2 → (min a b == 1) ≡ ((a == 1) && (b == 1))
min_one zero zero h k = refl
min_one zero (suc zero) h k = refl
min_one zero (suc (suc b)) h k = absurd (omega (arith, k))
min_one (suc zero) zero h k = refl
min_one (suc zero) (suc zero) h k = refl
min_one (suc zero) (suc (suc b)) h k = absurd (omega (arith, k))
min_one (suc (suc a)) b h k = absurd (omega (arith, h))

min_rest : (a b : ℕ) → a < 2 → b < 2 → (min a (1 - b) == 1) ≡ ((a == 1) && not (b == 1))
min_rest zero zero h k = refl
min_rest zero (suc zero) h k = refl
min_rest zero (suc (suc b)) h k = absurd (omega (arith, k))
min_rest (suc zero) zero h k = refl
min_rest (suc zero) (suc zero) h k = refl
min_rest (suc zero) (suc (suc b)) h k = absurd (omega (arith, k))
min_rest (suc (suc a)) b h k = absurd (omega (arith, h))

pub in_either : (a b k : ℕ) → (bit_at (bit_or a b) k == 1) ≡ ((bit_at a k == 1) || (bit_at b k == 1))
in_either a b k = ap (λ n. n == 1) (bit_at_or a b k) ∙ max_one (bit_at a k) (bit_at b k) (bit_at-lt a k) (bit_at-lt b k)

pub in_both : (a b k : ℕ) → (bit_at (bit_and a b) k == 1) ≡ ((bit_at a k == 1) && (bit_at b k == 1))
in_both a b k = ap (λ n. n == 1) (bit_at_and a b k) ∙ min_one (bit_at a k) (bit_at b k) (bit_at-lt a k) (bit_at-lt b k)

pub in_rest : (a b k : ℕ) → b < 2 ^ 64 → k < 64 → (bit_at (bit_and a (bit_not w64 b)) k == 1) ≡ ((bit_at a k == 1) && not (bit_at b k == 1))
in_rest a b k l m =
    ap (λ n. n == 1) (bit_at_and a (bit_not w64 b) k) ∙ ap (λ n. min (bit_at a k) n == 1) (bit_at_not w64 b k l m)
    ∙ min_rest (bit_at a k) (bit_at b k) (bit_at-lt a k) (bit_at-lt b k)

pub in_all : (k : ℕ) → k < 64 → (bit_at (2 ^ 64 - 1) k == 1) ≡ true
in_all k l = ap (λ n. n == 1) (bit_at_ones 64 k l)

pub in_one : (k : ℕ) → k < 64 → (bit_at (1 * 2 ^ k % 2 ^ 64) k == 1) ≡ true
in_one k l = ap (λ n. bit_at n k == 1) (one_shl k 64 l) ∙ ap (λ n. n == 1) (bit_at-pow_same k)

pub in_no_other : (k i : ℕ) → k < 64 → i ≢ k → (bit_at (1 * 2 ^ k % 2 ^ 64) i == 1) ≡ false
in_no_other k i l n = ap (λ m. bit_at m i == 1) (one_shl k 64 l) ∙ ap (λ m. m == 1) (bit_at-pow_other k i n)
