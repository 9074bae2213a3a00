-- Numbered local names are NCNames.
use Rattle.std.proofs.Common.{◌≡◌, ℕ, zero, suc, ◌<◌, ◌≤◌, ◌||◌, ◌&&◌, Bool, true, false, List, [], ◌∷◌, ◌++◌, refl, arith, decimal, codes, IsTrue, nat_le}
use Rattle.std.specs.List.{AllByRecursion, list_all}
use Rattle.rng_model.specs.Texts.{Text}
use Rattle.rng_model.specs.Names.{is_ncname, is_name_start, is_name_char, are_name_chars}
use Rattle.rng_model.specs.Fresh.{numbered}
use Rattle.universe_laws.proofs.Tests.{and_true, first_true, second_true}
use Rattle.universe_laws.proofs.Fresh.{AllAscii, ncname}
use Rattle.universe_laws.proofs.Digits.{IsDigit, decimal_is_digits}
use Rattle.std.proofs.lemmas.Bool.{le-leb}

digit_char : (c : ℕ) → IsDigit c → IsTrue (is_name_char c)
unfolding is_name_char
digit_char c (low, high) =
    second_true (is_name_start c) _ (
    second_true (nat_le 45 c && nat_le c 46) _ (
    first_true (nat_le 48 c && nat_le c 57) _ (and_true (nat_le 48 c) (nat_le c 57) (le-leb 48 c low) (le-leb c 57 high))))

x_start : IsTrue (is_name_start 120)
unfolding is_name_start
x_start = refl

digit_chars : (t : Text) → AllByRecursion IsDigit t → IsTrue (list_all is_name_char t)
digit_chars [] h = refl
digit_chars (c ∷ t) h = and_true (is_name_char c) (list_all is_name_char t) (digit_char c h.0) (digit_chars t h.1)

digits_ascii : (t : Text) → AllByRecursion IsDigit t → AllAscii t
digits_ascii [] h = tt
digits_ascii (c ∷ t) h = (let k = h.0.1 in omega arith, digits_ascii t h.1)

with_digits : (t : Text) → AllByRecursion IsDigit t → IsTrue (is_ncname (120 ∷ t))
with_digits t h = ncname (120 ∷ t) (omega arith, digits_ascii t h) (and_true (is_name_start 120) (list_all is_name_char t) x_start (digit_chars t h))

pub numbered_ncname : (k : ℕ) → IsTrue (is_ncname (numbered (codes "x") k))
numbered_ncname zero = with_digits [] tt
numbered_ncname (suc k) = with_digits (decimal (suc k)) (decimal_is_digits (suc k))
