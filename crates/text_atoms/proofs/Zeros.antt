-- The digits of a number behind its leading zeros.
use Rattle.std.proofs.Common.{◌≡◌, ℕ, ◌==◌, List, [], ◌∷◌, length, drop, refl, ◌<◌, ◌≤◌, true, arith, IsUtf8, get_or}
use Rattle.std.specs.List.{prefix_len}
use Rattle.rng_model.specs.Kinds.{without_zeros}
use Rattle.std.specs.Str.{IsCharBoundary}
use Rattle.std.proofs.lemmas.Str.{IsCharBoundary-after_ascii}
use Rattle.std.proofs.lemmas.Bool.Decides.{nat_tests}
use Rattle.text_atoms.proofs.Words.{by_test, drop_more, after_prefix}

pub behind : (t : List ℕ) → drop (prefix_len (λ d. d == 48) t) t ≡ without_zeros t
behind [] = refl
behind (c ∷ t) = by_test (c == 48) (λ e. rw (e, drop_more) (behind t)) (λ e. rw e refl)

ascii_zero : (b : ℕ) → (b == 48) ≡ true → b < 128
ascii_zero b e = grind (arith, nat_tests)

-- a text may be cut there
pub after_zeros : (t : List ℕ) → IsUtf8 t → IsCharBoundary t (prefix_len (λ d. d == 48) t)
after_zeros t u = after_prefix (λ d. d == 48) ascii_zero t u

-- and after a sign
pub after_sign : (t b : List ℕ) → b ≡ t → IsUtf8 t → 1 ≤ length b → get_or b 0 0 < 128 → IsCharBoundary t 1
after_sign t b e u some ascii = IsCharBoundary-after_ascii t 0 u (rw (← e) some) (rw (← e) ascii)
