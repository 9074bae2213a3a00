-- Escapes: the characters that stand there, and the number of their digits.
use Rattle.std.proofs.Common.{◌≡◌, ℕ, ◌+◌, ◌*◌, ◌^◌, ◌<◌, ◌≤◌, Bool, true, false, ◌||◌, ◌==◌, List, [], ◌∷◌, ◌++◌, length, refl, sym, ap, ap₂, ◌∙◌, subst, arith, length-append, encode_utf8, encode_utf8_all, chars, nat_eq, Some, None, Option, slice_get, IsUtf8, Result, OkIff, true≢false, MatchOption}
use Rattle.std.specs.List.{list_all}
use Rattle.std.specs.Option.{option_eq}
use Rattle.std.specs.Char.{digit_value, IsScalar}
use Rattle.std.specs.Str.Parse.{IsNumeral, AllDigits, digits_value, digits_value_after, without_leading_plus, ParsesUnsigned}
use Rattle.std.proofs.lemmas.Str.{encode_ascii, chars-nil, chars_past_char}
use Rattle.std.proofs.lemmas.Bool.{eqb-true, ltb-true}
use Rattle.std.proofs.lemmas.Bool.Decides.{nat_tests}
use Rattle.token_laws.specs.Lexing.{begins_code, is_allowed, hex_value, IsEscape}
use Rattle.token_laws.proofs.Runs.{both, clash, one_run, tail_same}
use Rattle.rnc_lexer.specs.Steps.{is_hexadecimal, IsNumber, HasNoNumber, HasNoEscape, Takes, TakesRun, TakesEscape}
use Rattle.rnc_lexer.proofs.Quotes.{taken}

-- One or more `x` and `{`.

pub code_more : (cs : List ℕ) → begins_code (120 ∷ 120 ∷ cs) ≡ begins_code (120 ∷ cs)
code_more cs = refl

no_code : (c : ℕ) (cs : List ℕ) → (c == 120) ≡ false → begins_code (c ∷ cs) ≡ false
no_code c [] e = refl
no_code c (d ∷ cs) e = rw e refl

or_false : (b : Bool) → (b || false) ≡ b
or_false true = refl
or_false false = refl

pub code_ends : (c : ℕ) (cs : List ℕ) → (c == 120) ≡ false → begins_code (120 ∷ c ∷ cs) ≡ (c == 123)
code_ends c cs e = ap (λ z. (c == 123) || z) (no_code c cs e) ∙ or_false (c == 123)

none_left : (bs : List ℕ) → length bs ≡ 0 → chars bs ≡ []
none_left [] e = chars-nil
none_left (b ∷ bs) e = absurd (omega (arith, e))

pub code_none : (bs : List ℕ) → length bs ≡ 0 → false ≡ begins_code (chars bs)
code_none bs e = sym (ap begins_code (none_left bs e))

pub code_first : (bs rest : List ℕ) (c : ℕ) → IsUtf8 bs → bs ≡ encode_utf8 c ++ rest → (c == 120) ≡ false → false ≡ begins_code (chars bs)
code_first bs rest c u e n = sym (ap begins_code (chars_past_char bs rest c u e) ∙ no_code c (chars rest) n)

pub code_begun : (bs rest : List ℕ) (c : ℕ) → IsUtf8 bs → bs ≡ encode_utf8 c ++ rest → c ≡ 120 → begins_code (chars bs) ≡ begins_code (120 ∷ chars rest)
code_begun bs rest c u e n = ap begins_code (chars_past_char bs rest c u e ∙ ap (λ z. z ∷ chars rest) n)

pub code_goes : (bs rest : List ℕ) (c : ℕ) → IsUtf8 bs → bs ≡ encode_utf8 c ++ rest → c ≡ 120 → begins_code (120 ∷ chars bs) ≡ begins_code (120 ∷ chars rest)
code_goes bs rest c u e n = ap (λ z. begins_code (120 ∷ z)) (chars_past_char bs rest c u e ∙ ap (λ z. z ∷ chars rest) n)

pub code_stops : (bs rest : List ℕ) (c : ℕ) → IsUtf8 bs → bs ≡ encode_utf8 c ++ rest → (c == 120) ≡ false → begins_code (120 ∷ chars bs) ≡ (c == 123)
code_stops bs rest c u e n = ap (λ z. begins_code (120 ∷ z)) (chars_past_char bs rest c u e) ∙ code_ends c (chars rest) n

pub code_over : (bs : List ℕ) → length bs ≡ 0 → begins_code (120 ∷ chars bs) ≡ false
code_over bs e = ap (λ z. begins_code (120 ∷ z)) (none_left bs e)

-- Digits are one byte each.

hexadecimal_small : (c : ℕ) → is_hexadecimal c ≡ true → c < 128
hexadecimal_small c e = go (ltb-true (digit_value c) 16 e)
  where
    go : digit_value c < 16 → c < 128
    go h = grind (arith, nat_tests)

pub digits_ascii : (xs : List ℕ) → list_all is_hexadecimal xs ≡ true → encode_utf8_all xs ≡ xs
digits_ascii [] e = refl
digits_ascii (x ∷ xs) e =
    let h = both (is_hexadecimal x) (list_all is_hexadecimal xs) e in
    ap₂ (λ y z. y ++ z) (encode_ascii x (hexadecimal_small x h.0)) (digits_ascii xs h.1)

pub run_hexadecimal : {before text after : List ℕ} → TakesRun is_hexadecimal before text after → list_all is_hexadecimal text ≡ true
run_hexadecimal t = subst (λ z. list_all is_hexadecimal z ≡ true) (sym (t.spelled ∙ digits_ascii t.characters t.run.passes)) t.run.passes

-- Numbers.

all_digits : (xs : List ℕ) → list_all is_hexadecimal xs ≡ true → AllDigits 16 xs
all_digits [] e = tt
all_digits (x ∷ xs) e =
    let h = both (is_hexadecimal x) (list_all is_hexadecimal xs) e in
    (ltb-true (digit_value x) 16 h.0, all_digits xs h.1)

value_same : (n : ℕ) (xs : List ℕ) → digits_value_after 16 n xs ≡ hex_value n xs
value_same n [] = refl
value_same n (x ∷ xs) = value_same (n * 16 + digit_value x) xs

no_plus : (xs : List ℕ) → list_all is_hexadecimal xs ≡ true → without_leading_plus xs ≡ xs
no_plus [] e = refl
no_plus (x ∷ xs) e = go (x == 43) refl
  where
    go : (b : Bool) → (x == 43) ≡ b → without_leading_plus (x ∷ xs) ≡ x ∷ xs
    go true f =
        let h = (both (is_hexadecimal x) (list_all is_hexadecimal xs) e).0 in
        clash (subst (λ z. is_hexadecimal z ≡ true) (eqb-true x 43 f) h) refl
    go false f = rw f refl

allowed_small : (n : ℕ) → is_allowed n ≡ true → n < 2 ^ 32
allowed_small n e = grind (arith, nat_tests)

pub parsed : {E : Type 0} (xs : List ℕ) (r : Result ℕ E) → list_all is_hexadecimal xs ≡ true → ParsesUnsigned 32 16 xs r → OkIff r (IsNumeral 16 xs × (hex_value 0 xs < 2 ^ 32)) (hex_value 0 xs)
parsed xs r e h =
    subst (λ v. OkIff r (IsNumeral 16 xs × (v < 2 ^ 32)) v) (value_same 0 xs)
    (subst (λ ds. OkIff r (IsNumeral 16 ds × (digits_value 16 ds < 2 ^ 32)) (digits_value 16 ds)) (no_plus xs e) h)

-- digits that are no numeral have no number
pub no_numeral : (xs : List ℕ) → list_all is_hexadecimal xs ≡ true → (IsNumeral 16 xs × (hex_value 0 xs < 2 ^ 32) → ⊥) → HasNoNumber xs
no_numeral xs e n m i = n ((i.some, all_digits xs e), subst (λ v. v < 2 ^ 32) i.number (allowed_small m i.allowed))

pub too_many : (xs : List ℕ) → 6 < length xs → HasNoNumber xs
too_many xs l n i = let f = i.few in omega (arith, l, f)

allowed_scalar : (n : ℕ) → is_allowed n ≡ true → IsScalar n
allowed_scalar n e = grind (arith, nat_tests)

-- digits of no character have no number
pub no_scalar : (xs : List ℕ) (n : ℕ) → n ≡ hex_value 0 xs → (IsScalar n → ⊥) → HasNoNumber xs
no_scalar xs n e none m i = none (allowed_scalar n (subst (λ v. is_allowed v ≡ true) (i.number ∙ sym e) i.allowed))

pub not_allowed : (xs : List ℕ) → is_allowed (hex_value 0 xs) ≡ false → HasNoNumber xs
not_allowed xs e n i = clash (subst (λ v. is_allowed v ≡ true) i.number i.allowed) e

-- Escapes.

-- the first characters of an escape
begins : (cs : List ℕ) (n : ℕ) (ds rest : List ℕ) → IsEscape cs n ds rest → cs ≡ 92 ∷ 120 ∷ 123 ∷ (ds ++ 125 ∷ rest)
begins cs n ds rest e = e.spelled

tests : (c : ℕ) (cs : List ℕ) → option_eq nat_eq (slice_get (c ∷ cs) 0) (Some c) ≡ false → (c == c) ≡ true → ⊥
tests c cs e f = true≢false (sym f ∙ e)

pub no_first : (bs : List ℕ) → option_eq nat_eq (slice_get (chars bs) 0) (Some 92) ≡ false → HasNoEscape bs
no_first bs e n ds rest i = true≢false (subst (λ z. option_eq nat_eq (slice_get z 0) (Some 92) ≡ false) i.spelled e)

pub no_second : (bs a : List ℕ) → Takes 92 bs true a → option_eq nat_eq (slice_get (chars a) 0) (Some 120) ≡ false → HasNoEscape bs
no_second bs a t e n ds rest i = true≢false (subst (λ z. option_eq nat_eq (slice_get z 0) (Some 120) ≡ false) (tail_same (sym t.1 ∙ i.spelled)) e)

pub no_third : (bs a b : List ℕ) → Takes 92 bs true a → Takes 120 a true b → option_eq nat_eq (slice_get (chars b) 0) (Some 123) ≡ false → HasNoEscape bs
no_third bs a b t u e n ds rest i =
    true≢false (subst (λ z. option_eq nat_eq (slice_get z 0) (Some 123) ≡ false) (tail_same (sym u.1 ∙ tail_same (sym t.1 ∙ i.spelled))) e)

-- the digits of an escape are the run of digits, and `}` stands behind it
digits_are : {bs a b d text after : List ℕ} → Takes 92 bs true a → Takes 120 a true b → Takes 123 b true d → (r : TakesRun is_hexadecimal d text after) (n : ℕ) (ds rest : List ℕ) → IsEscape (chars bs) n ds rest →
    (r.characters ≡ ds) × (chars after ≡ 125 ∷ rest)
digits_are {after = after} t u v r n ds rest i =
    let same : r.characters ++ chars after ≡ ds ++ 125 ∷ rest = sym r.run.spelled ∙ tail_same (sym v.1 ∙ tail_same (sym u.1 ∙ tail_same (sym t.1 ∙ i.spelled))) in
    one_run is_hexadecimal r.characters (chars after) ds (125 ∷ rest) r.run.passes r.run.ends i.hexadecimal refl same

pub no_close : {bs a b d text after : List ℕ} → Takes 92 bs true a → Takes 120 a true b → Takes 123 b true d → TakesRun is_hexadecimal d text after → option_eq nat_eq (slice_get (chars after) 0) (Some 125) ≡ false →
    HasNoEscape bs
no_close t u v r e n ds rest i =
    let same = digits_are t u v r n ds rest i in
    true≢false (subst (λ z. option_eq nat_eq (slice_get z 0) (Some 125) ≡ false) same.1 e)

text_is : {d text after : List ℕ} (r : TakesRun is_hexadecimal d text after) → text ≡ r.characters
text_is r = r.spelled ∙ digits_ascii r.characters r.run.passes

pub no_value : {bs a b d text after : List ℕ} → Takes 92 bs true a → Takes 120 a true b → Takes 123 b true d → TakesRun is_hexadecimal d text after → HasNoNumber text → HasNoEscape bs
no_value t u v r e n ds rest i =
    let same = digits_are t u v r n ds rest i in
    let is = sym (same.0) ∙ sym (text_is r) in
    e n (record {
      some = subst (λ z. 1 ≤ length z) is i.some;
      few = subst (λ z. length z ≤ 6) is i.few;
      number = subst (λ z. n ≡ hex_value 0 z) is i.number;
      allowed = i.allowed;
    })

pub whole_escape : {bs a b d text mid after : List ℕ} (end n : ℕ) → Takes 92 bs true a → Takes 120 a true b → Takes 123 b true d → TakesRun is_hexadecimal d text mid → Takes 125 mid true after → IsNumber text n →
    TakesEscape end bs n after
unfolding lib.Utf8.encode
whole_escape {text = text} {after = after} end n t u v r w i = record {
  digits = text;
  escape = record {
    spelled = t.1 ∙ ap (λ z. 92 ∷ z) (u.1 ∙ ap (λ z. 120 ∷ z) (v.1 ∙ ap (λ z. 123 ∷ z) (r.run.spelled ∙ (ap (λ z. z ++ chars _) (sym (text_is r)) ∙ ap (λ z. text ++ z) w.1))));
    hexadecimal = run_hexadecimal r;
    some = i.some;
    few = i.few;
    number = i.number;
    allowed = i.allowed;
  };
  size =
      let k = taken 92 _ t.0 in
      let l = taken 120 _ u.0 in
      let m = taken 123 _ v.0 in
      let o = ap length r.bytes ∙ length-append text _ in
      let p = taken 125 after w.0 in
      let e₁ : length (encode_utf8 92) ≡ 1 = refl in
      let e₂ : length (encode_utf8 120) ≡ 1 = refl in
      let e₃ : length (encode_utf8 123) ≡ 1 = refl in
      let e₄ : length (encode_utf8 125) ≡ 1 = refl in
      omega arith;
}

pub escape_found : {bs a b d text mid : List ℕ} (after : List ℕ) (end : ℕ) (r : Option ℕ) → Takes 92 bs true a → Takes 120 a true b → Takes 123 b true d → TakesRun is_hexadecimal d text mid → Takes 125 mid true after →
    MatchOption r (HasNoNumber text) (λ n. IsNumber text n) → MatchOption r (HasNoEscape bs) (λ n. TakesEscape end bs n after)
escape_found after end None t u v r w m = no_value t u v r m
escape_found after end (Some n) t u v r w m = whole_escape end n t u v r w m
