-- Blanks and comments.
use Rattle.std.proofs.Common.{◌≡◌, ℕ, ◌+◌, ◌-◌, ◌<◌, ◌≤◌, Bool, true, false, ◌==◌, List, [], ◌∷◌, ◌++◌, length, refl, sym, ap, ◌∙◌, subst, arith, length-append, encode_utf8, encode_utf8_all, chars, slice_get, nat_eq, Some, if◌then◌else◌, true≢false}
use Rattle.std.specs.List.{list_all}
use Rattle.std.specs.Option.{option_eq}
use Rattle.std.proofs.lemmas.Str.{length-encode, len_utf8_ascii, len_utf8_bounds}
use Rattle.std.proofs.lemmas.Bool.{eqb-true}
use Rattle.std.proofs.lemmas.Bool.Decides.{nat_tests}
use Rattle.rng_model.specs.Texts.{is_space}
use Rattle.token_laws.specs.Tokens.{Placed}
use Rattle.token_laws.specs.Lexing.{width, is_line_end, start_of, at_blank, at_comment, at_quote, at_escape, at_word, is_quote, opens_escape, EndsRun, IsRun, Joined, Ending, Reads}
use Rattle.token_laws.specs.Lexing as by
use Rattle.token_laws.proofs.Runs.{both}
use Rattle.rnc_lexer.specs.Steps.{TakesRun, Skips, in_line, is_gap}

space_small : (c : ℕ) → is_space c ≡ true → c < 128
space_small c e = grind (arith, nat_tests)

space_width : (c : ℕ) → is_space c ≡ true → length (encode_utf8 c) ≡ 1
space_width c e = length-encode c ∙ len_utf8_ascii c (space_small c e)

blank_start : (c : ℕ) (cs : List ℕ) → is_space c ≡ true → start_of (c ∷ cs) ≡ at_blank
blank_start c cs e = rw e refl

blanks : (j : Joined) (a : ℕ) (xs ds : List ℕ) (ts : List Placed) (e : Ending) → list_all is_space xs ≡ true → Reads j (a + width xs) ds ts e → Reads j a (xs ++ ds) ts e
blanks j a [] ds ts e h r = let p : a + width [] ≡ a = omega arith in subst (λ z. Reads j z ds ts e) p r
blanks j a (x ∷ xs) ds ts e h r =
    let k = both (is_space x) (list_all is_space xs) h in
    let w = space_width x k.0 in
    let l : width (x ∷ xs) ≡ length (encode_utf8 x) + width xs = length-append (encode_utf8 x) (encode_utf8_all xs) in
    let p : a + width (x ∷ xs) ≡ (a + 1) + width xs = omega arith in
    by.blank (blank_start x (xs ++ ds) k.0) (blanks j (a + 1) xs ds ts e k.1 (subst (λ z. Reads j z ds ts e) p r))

-- how far a run goes
run_place : {p : ℕ → Bool} {end : ℕ} {before text after : List ℕ} (t : TakesRun p before text after) → length before ≤ end →
    end - length after ≡ (end - length before) + width t.characters
run_place {before = before} {text = text} {after = after} t le =
    let a : length before ≡ length text + length after = ap length t.bytes ∙ length-append text after in
    let b : length text ≡ width t.characters = ap length t.spelled in
    omega arith

pub over_blanks : {end : ℕ} {before text after : List ℕ} → TakesRun is_space before text after → length before ≤ end → Skips end before after
over_blanks {end = end} {before = before} {after = after} t le j ts e r =
    subst (λ z. Reads j (end - length before) z ts e) (sym t.run.spelled)
    (blanks j (end - length before) t.characters (chars after) ts e t.run.passes (subst (λ z. Reads j z (chars after) ts e) (run_place t le) r))

pub over_comment : {end : ℕ} {before text after : List ℕ} → start_of (chars before) ≡ at_comment → TakesRun in_line before text after → length before ≤ end → Skips end before after
over_comment {after = after} s t le j ts e r = by.comment s t.run (subst (λ z. Reads j z (chars after) ts e) (run_place t le) r)

-- the first character, as code tests it
abbrev pub begins_with : ℕ → List ℕ → Bool
begins_with c cs = option_eq nat_eq (slice_get cs 0) (Some c)

-- a hash begins a comment
begins_hash : (cs : List ℕ) → begins_with 35 cs ≡ true → start_of cs ≡ at_comment
begins_hash [] e = absurd (true≢false (sym e))
begins_hash (c ∷ cs) e = let h : c ≡ 35 = eqb-true c 35 e in subst (λ z. start_of (z ∷ cs) ≡ at_comment) (sym h) refl

pub at_hash : (bs : List ℕ) → begins_with 35 (chars bs) ≡ true → start_of (chars bs) ≡ at_comment
at_hash bs e = begins_hash (chars bs) e

hash_goes : (cs : List ℕ) → begins_with 35 cs ≡ true → EndsRun in_line cs → ⊥
hash_goes [] e f = true≢false (sym e)
hash_goes (c ∷ cs) e f = let h : c ≡ 35 = eqb-true c 35 e in true≢false (subst (λ z. in_line z ≡ false) h f)

width_some : (x : ℕ) (xs : List ℕ) → 1 ≤ width (x ∷ xs)
width_some x xs =
    let l : width (x ∷ xs) ≡ length (encode_utf8 x) + width xs = length-append (encode_utf8 x) (encode_utf8_all xs) in
    let k = length-encode x in
    let b = (len_utf8_bounds x).0 in
    omega arith

-- a comment has a character
pub comment_shrinks : {before text after : List ℕ} → begins_with 35 (chars before) ≡ true → TakesRun in_line before text after → length after < length before
comment_shrinks {before = before} {text = text} {after = after} e t = go t.characters refl
  where
    go : (xs : List ℕ) → t.characters ≡ xs → length after < length before
    go [] same = absurd (hash_goes (chars before) e (subst (EndsRun in_line) (sym (t.run.spelled ∙ ap (λ z. z ++ chars after) same)) t.run.ends))
    go (x ∷ xs) same =
        let a : length before ≡ length text + length after = ap length t.bytes ∙ length-append text after in
        let b : length text ≡ width t.characters = ap length t.spelled in
        let d : width t.characters ≡ width (x ∷ xs) = ap width same in
        let w = width_some x xs in
        omega arith

pub run_shrinks : {p : ℕ → Bool} {before text after : List ℕ} → TakesRun p before text after → length after ≤ length before
run_shrinks {before = before} {text = text} {after = after} t =
    let a : length before ≡ length text + length after = ap length t.bytes ∙ length-append text after in
    omega arith

pub turn_shrinks : {before text mid other after : List ℕ} → begins_with 35 (chars before) ≡ true → TakesRun in_line before text mid → TakesRun is_space mid other after → length after < length before
turn_shrinks e t u =
    let a = comment_shrinks e t in
    let b = run_shrinks u in
    omega arith

pub over_turn : {end : ℕ} (start : List ℕ) {before text mid other after : List ℕ} → Skips end start before → begins_with 35 (chars before) ≡ true → length before ≤ end →
    TakesRun in_line before text mid → TakesRun is_space mid other after → Skips end start after
over_turn start s e le t u j ts d r =
    let m = run_shrinks t in
    s j ts d (over_comment (at_hash _ e) t le j ts d (over_blanks u (omega arith) j ts d r))

four : (a b c d : Bool) → a ≡ false → b ≡ false →
    is_gap (if a then at_blank else if b then at_comment else if c then at_quote else if d then at_escape else at_word) ≡ false
four a b true d e f = rw e (rw f refl)
four a b false true e f = rw e (rw f refl)
four a b false false e f = rw e (rw f refl)

pub no_gap : (cs : List ℕ) → EndsRun is_space cs → begins_with 35 cs ≡ false → is_gap (start_of cs) ≡ false
no_gap [] e n = refl
no_gap (c ∷ cs) e n = four (is_space c) (c == 35) (is_quote c) (opens_escape (c ∷ cs)) e n
