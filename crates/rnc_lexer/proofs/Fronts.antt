-- A run of characters, taken one after another.
use Rattle.std.proofs.Common.{◌≡◌, ℕ, ◌+◌, ◌-◌, Bool, true, false, not, List, [], ◌∷◌, ◌++◌, length, refl, sym, ap, ◌∙◌, subst, arith, append_assoc, append-nil, length-append, encode_utf8, encode_utf8_all, chars, IsUtf8, true≢false}
use Rattle.std.specs.List.{list_all}
use Rattle.std.proofs.lemmas.Str.{chars_past_char, chars-nil, encodes-append, IsCharBoundary-at_seam}
use Rattle.std.specs.Str.{IsCharBoundary}
use Rattle.token_laws.specs.Lexing.{EndsRun, is_allowed}
use Rattle.token_laws.proofs.Runs.{both}
use Rattle.rnc_lexer.specs.Steps.{TakesRun, IsRefusedAt}

-- some characters that pass stand before `rest`
pub record Front (p : ℕ → Bool) (start rest : List ℕ) : Type 0 where
  pub characters : List ℕ
  pub bytes : start ≡ encode_utf8_all characters ++ rest
  pub spelled : chars start ≡ characters ++ chars rest
  pub passes : list_all p characters ≡ true

pub front_start : (p : ℕ → Bool) (start : List ℕ) → Front p start start
front_start p start = record { characters = []; bytes = refl; spelled = refl; passes = refl }

all_more : (p : ℕ → Bool) (xs : List ℕ) (c : ℕ) → list_all p xs ≡ true → p c ≡ true → list_all p (xs ++ c ∷ []) ≡ true
all_more p [] c e f = rw f refl
all_more p (x ∷ xs) c e f =
    let h = both (p x) (list_all p xs) e in
    let g = all_more p xs c h.1 f in
    rw h.0 g

front_step : {p : ℕ → Bool} {start bs rest : List ℕ} (c : ℕ) → Front p start bs → IsUtf8 bs → bs ≡ encode_utf8 c ++ rest → p c ≡ true → Front p start rest
front_step {p = p} {start = start} {bs = bs} {rest = rest} c f u same e = record {
  characters = f.characters ++ c ∷ [];
  bytes =
      let one : encode_utf8_all (f.characters ++ c ∷ []) ≡ encode_utf8_all f.characters ++ encode_utf8 c =
      encodes-append f.characters (c ∷ []) ∙ ap (λ z. encode_utf8_all f.characters ++ z) (append-nil (encode_utf8 c)) in
      f.bytes ∙ (ap (λ z. encode_utf8_all f.characters ++ z) same ∙ (sym (append_assoc (encode_utf8_all f.characters) (encode_utf8 c) rest) ∙ ap (λ z. z ++ rest) (sym one)));
  spelled = f.spelled ∙ (ap (λ z. f.characters ++ z) (chars_past_char bs rest c u same) ∙ sym (append_assoc f.characters (c ∷ []) (chars rest)));
  passes = all_more p f.characters c f.passes e;
}

pub front_more : {p : ℕ → Bool} {start bs rest new : List ℕ} (c : ℕ) → Front p start bs → IsUtf8 bs → bs ≡ encode_utf8 c ++ rest → new ≡ rest → p c ≡ true → Front p start new
front_more {p = p} {start = start} c f u same is e = subst (Front p start) (sym is) (front_step c f u same e)

-- the next character doesn't pass
pub ends_at : (p : ℕ → Bool) (bs rest : List ℕ) (c : ℕ) → IsUtf8 bs → bs ≡ encode_utf8 c ++ rest → p c ≡ false → EndsRun p (chars bs)
ends_at p bs rest c u same e = subst (EndsRun p) (sym (chars_past_char bs rest c u same)) e

pub ends_with : (p : ℕ → Bool) (bs : List ℕ) → length bs ≡ 0 → EndsRun p (chars bs)
ends_with p [] e = subst (EndsRun p) (sym chars-nil) tt
ends_with p (b ∷ bs) e = absurd (omega (arith, e))

pub front_end : {p : ℕ → Bool} {start rest : List ℕ} (f : Front p start rest) → EndsRun p (chars rest) → TakesRun p start (encode_utf8_all f.characters) rest
front_end f e = record {
  characters = f.characters;
  spelled = refl;
  bytes = f.bytes;
  run = record { spelled = f.spelled; passes = f.passes; ends = e };
}

front_length : (p : ℕ → Bool) (start rest : List ℕ) (f : Front p start rest) → length (encode_utf8_all f.characters) ≡ length start - length rest
front_length p start rest f =
    let a : length start ≡ length (encode_utf8_all f.characters) + length rest = ap length f.bytes ∙ length-append (encode_utf8_all f.characters) rest in
    omega arith

pub front_cut : (p : ℕ → Bool) (start rest : List ℕ) → Front p start rest → IsUtf8 rest → IsCharBoundary start (length start - length rest)
front_cut p start rest f u =
    subst (IsCharBoundary start) (front_length p start rest f) (IsCharBoundary-at_seam start (encode_utf8_all f.characters) rest f.bytes u)

pub refused_at : (start rest new : List ℕ) (c : ℕ) → Front is_allowed start rest → IsUtf8 rest → rest ≡ encode_utf8 c ++ new → is_allowed c ≡ false → IsRefusedAt start (length start - length rest)
refused_at start rest new c f u same e = (
  f.characters,
  c,
  chars new,
  record { spelled = f.spelled ∙ ap (λ z. f.characters ++ z) (chars_past_char rest new c u same); allowed = f.passes; refused = e },
  sym (front_length is_allowed start rest f),
)

pub not_true : (b : Bool) → true ≡ not b → b ≡ false
not_true true e = absurd (true≢false e)
not_true false e = refl

-- the whole text passes
pub all_passed : (p : ℕ → Bool) (start rest : List ℕ) → Front p start rest → length rest ≡ 0 → list_all p (chars start) ≡ true
all_passed p start [] f e =
    subst (λ z. list_all p z ≡ true) (sym (f.spelled ∙ (ap (λ z. f.characters ++ z) chars-nil ∙ append-nil f.characters))) f.passes
all_passed p start (r ∷ rest) f e = absurd (omega (arith, e))
