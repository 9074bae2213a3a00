-- Segments: their quotes, and the characters inside.
use Rattle.std.proofs.Common.{◌≡◌, ℕ, ◌+◌, ◌-◌, ◌<◌, ◌≤◌, Bool, true, false, ◌&&◌, ◌==◌, List, [], ◌∷◌, ◌++◌, length, refl, sym, ap, ◌∙◌, subst, subst₂, arith, length-append, suc, zero-add, encode_utf8, encode_utf8_all, chars, nat_eq, Some, slice_get, IsUtf8, true≢false}
use Rattle.std.specs.Option.{option_eq}
use Rattle.std.proofs.lemmas.Str.{encode_ascii, chars_past_char, chars-nil, length-encode, len_utf8_ascii, len_utf8_bounds}
use Rattle.std.proofs.lemmas.Bool.{eq-eqb}
use Rattle.std.proofs.lemmas.Bool.Decides.{nat_tests}
use Rattle.token_laws.specs.Lexing.{is_quote, is_line_end, begins_three, closes, opens_escape, SegmentEnd, closed, unclosed, bad, refused, Inside, nothing, quotes, escape, line_end, character, inside_of, after_line_end, ReadsInside, ReadsSegment, IsSegmentFault, Fault, bad_escape, escape_refused, open_literal}
use Rattle.token_laws.specs.Lexing as by
use Rattle.rnc_lexer.specs.Steps.{place, Takes, TakesThree, SkipsFeed, LeadsSegment, Closes, TakesInside, FailsInside, TakesEscape, FailsEscape}

ascii_length : (c : ℕ) → c < 128 → length (encode_utf8 c) ≡ 1
ascii_length c h = length-encode c ∙ len_utf8_ascii c h

pub some_length : (c : ℕ) → 1 ≤ length (encode_utf8 c)
some_length c = let k = length-encode c in let b = (len_utf8_bounds c).0 in omega arith

quote_small : (c : ℕ) → is_quote c ≡ true → c < 128
quote_small c e = grind (arith, nat_tests)

same : (c : ℕ) → (c == c) ≡ true
same c = eq-eqb c c refl

-- how many bytes a character takes
pub taken : (c : ℕ) {before : List ℕ} (after : List ℕ) → before ≡ encode_utf8 c ++ after → length before ≡ length (encode_utf8 c) + length after
taken c after e = ap length e ∙ length-append (encode_utf8 c) after

-- Three quotes.

pub three : (c : ℕ) {a b d : List ℕ} (e : List ℕ) → Takes c a true b → Takes c b true d → Takes c d true e → TakesThree c a true e
three c {a = a} {b = b} {d = d} e f g h =
    let m = taken c b f.0 in
    let n = taken c d g.0 in
    let o = taken c e h.0 in
    let l : length (encode_utf8_all (c ∷ c ∷ c ∷ [])) ≡ length (encode_utf8 c) + length (encode_utf8_all (c ∷ c ∷ [])) = length-append (encode_utf8 c) (encode_utf8_all (c ∷ c ∷ [])) in
    let p : length (encode_utf8_all (c ∷ c ∷ [])) ≡ length (encode_utf8 c) + length (encode_utf8_all (c ∷ [])) = length-append (encode_utf8 c) (encode_utf8_all (c ∷ [])) in
    let q : length (encode_utf8_all (c ∷ [])) ≡ length (encode_utf8 c) + 0 = length-append (encode_utf8 c) [] in
    (omega arith, f.1 ∙ ap (λ z. c ∷ z) (g.1 ∙ ap (λ z. c ∷ z) h.1))

pub not_first : (c : ℕ) (cs : List ℕ) → option_eq nat_eq (slice_get cs 0) (Some c) ≡ false → begins_three c cs ≡ false
not_first c [] e = refl
not_first c (a ∷ []) e = refl
not_first c (a ∷ b ∷ []) e = refl
not_first c (a ∷ b ∷ d ∷ cs) e = rw e refl

and_false : (a b : Bool) → b ≡ false → (a && b) ≡ false
and_false true b e = e
and_false false b e = refl

not_second : (c a : ℕ) (cs : List ℕ) → option_eq nat_eq (slice_get cs 0) (Some c) ≡ false → begins_three c (a ∷ cs) ≡ false
not_second c a [] e = refl
not_second c a (b ∷ []) e = refl
not_second c a (b ∷ d ∷ cs) e = and_false (a == c) ((b == c) && (d == c)) (rw e refl)

not_third : (c a b : ℕ) (cs : List ℕ) → option_eq nat_eq (slice_get cs 0) (Some c) ≡ false → begins_three c (a ∷ b ∷ cs) ≡ false
not_third c a b [] e = refl
not_third c a b (d ∷ cs) e = and_false (a == c) ((b == c) && (d == c)) (and_false (b == c) (d == c) e)

pub two_only : (c : ℕ) {a b : List ℕ} (d : List ℕ) → Takes c a true b → Takes c b false d → begins_three c (chars a) ≡ false
two_only c {b = b} d f g = subst (λ z. begins_three c z ≡ false) (sym f.1) (not_second c c (chars b) g.1)

pub one_missing : (c : ℕ) {a b d : List ℕ} (e : List ℕ) → Takes c a true b → Takes c b true d → Takes c d false e → begins_three c (chars a) ≡ false
one_missing c {d = d} e f g h = subst (λ z. begins_three c z ≡ false) (sym (f.1 ∙ ap (λ z. c ∷ z) g.1)) (not_third c c c (chars d) h.1)

three_here : (c : ℕ) (cs : List ℕ) → begins_three c (c ∷ c ∷ c ∷ cs) ≡ true
three_here c cs = rw (same c) refl

-- Opening quotes.

three_bytes : (c : ℕ) → is_quote c ≡ true → length (encode_utf8_all (c ∷ c ∷ c ∷ [])) ≡ 3
three_bytes c q =
    let k = ascii_length c (quote_small c q) in
    let l : length (encode_utf8_all (c ∷ c ∷ c ∷ [])) ≡ length (encode_utf8 c) + length (encode_utf8_all (c ∷ c ∷ [])) = length-append (encode_utf8 c) (encode_utf8_all (c ∷ c ∷ [])) in
    let p : length (encode_utf8_all (c ∷ c ∷ [])) ≡ length (encode_utf8 c) + length (encode_utf8_all (c ∷ [])) = length-append (encode_utf8 c) (encode_utf8_all (c ∷ [])) in
    let o : length (encode_utf8_all (c ∷ [])) ≡ length (encode_utf8 c) + 0 = length-append (encode_utf8 c) [] in
    omega arith

pub opens_long : (end c : ℕ) (before after : List ℕ) → is_quote c ≡ true → length before ≤ end → TakesThree c before true after → LeadsSegment end before c true [] after
opens_long end c before after q le t s e r =
    let w = three_bytes c q in
    let l = t.0 in
    let p : place end after ≡ place end before + 3 = omega arith in
    subst (λ z. ReadsSegment (place end before) z s e) (sym t.1)
    (by.ReadsSegment.long (three_here c (chars after)) (subst (λ z. ReadsInside c true z (chars after) s e) p r))

pub opens_short : (end c : ℕ) (before after : List ℕ) → is_quote c ≡ true → length before ≤ end → begins_three c (chars before) ≡ false → Takes c before true after → LeadsSegment end before c false [] after
opens_short end c before after q le n t s e r =
    let w = ascii_length c (quote_small c q) in
    let l = taken c after t.0 in
    let p : place end after ≡ place end before + 1 = omega arith in
    subst (λ z. ReadsSegment (place end before) z s e) (sym t.1)
    (by.ReadsSegment.short (subst (λ z. begins_three c z ≡ false) t.1 n) (subst (λ z. ReadsInside c false z (chars after) s e) p r))

none_taken : (c : ℕ) (cs : List ℕ) → slice_get cs 0 ≡ Some c → option_eq nat_eq (slice_get cs 0) (Some c) ≡ false → ⊥
none_taken c cs e f = true≢false (sym (same c) ∙ subst (λ z. option_eq nat_eq z (Some c) ≡ false) e f)

-- the mark that is there is taken
pub mark_taken : (c : ℕ) (b : Bool) (before after : List ℕ) → slice_get (chars before) 0 ≡ Some c → Takes c before b after → Takes c before true after
mark_taken c true before after e t = t
mark_taken c false before after e t = absurd (none_taken c (chars before) e t.1)

-- Closing quotes.

closing : (c : ℕ) (cs ds : List ℕ) (long : Bool) → closes c long (c ∷ cs) ≡ true → inside_of c long (c ∷ cs) ≡ quotes
closing c cs ds long e = rw e refl

pub closes_long : (end c : ℕ) (before after : List ℕ) → is_quote c ≡ true → length before ≤ end → TakesThree c before true after → Closes end c true before true after
closes_long end c before after q le t =
    let w = three_bytes c q in
    let l = t.0 in
    let p : place end before + 3 ≡ place end after = omega arith in
    let here : inside_of c true (c ∷ c ∷ c ∷ chars after) ≡ quotes = closing c (c ∷ c ∷ chars after) [] true (three_here c (chars after)) in
    (subst₂ (λ y z. ReadsInside c true (place end before) y [] (closed z (chars after))) (sym t.1) p (by.at_quotes here refl refl), omega arith)

pub closes_short : (end c : ℕ) (before after : List ℕ) → is_quote c ≡ true → length before ≤ end → Takes c before true after → Closes end c false before true after
closes_short end c before after q le t =
    let w = ascii_length c (quote_small c q) in
    let l = taken c after t.0 in
    let p : place end before + 1 ≡ place end after = omega arith in
    let here : inside_of c false (c ∷ chars after) ≡ quotes = closing c (chars after) [] false (same c) in
    (subst₂ (λ y z. ReadsInside c false (place end before) y [] (closed z (chars after))) (sym t.1) p (by.at_quotes here refl refl), omega arith)

pub open_short : (c : ℕ) (cs : List ℕ) → option_eq nat_eq (slice_get cs 0) (Some c) ≡ false → closes c false cs ≡ false
open_short c [] e = refl
open_short c (d ∷ cs) e = e

-- the two kinds of quotes, by what was taken
pub closes_three : (end c : ℕ) (b : Bool) (before after : List ℕ) → is_quote c ≡ true → length before ≤ end → TakesThree c before b after → Closes end c true before b after
closes_three end c true before after q le t = closes_long end c before after q le t
closes_three end c false before after q le t = t

pub closes_one : (end c : ℕ) (b : Bool) (before after : List ℕ) → is_quote c ≡ true → length before ≤ end → Takes c before b after → Closes end c false before b after
closes_one end c true before after q le t = closes_short end c before after q le t
closes_one end c false before after q le t = (t.0, open_short c (chars before) t.1)

-- Characters inside.

pub feed_taken : (before after : List ℕ) (b : Bool) → Takes 10 before b after → SkipsFeed 13 before after
feed_taken before after true t = (sym (subst (λ z. after_line_end (13 ∷ z) ≡ chars after) (sym t.1) refl), (1, taken_one, taken_character))
  where
    taken_character : length (chars before) ≡ 1 + length (chars after)
    taken_character = let e : length (chars before) ≡ suc (length (chars after)) = ap length t.1 in omega arith

    taken_one : length before ≡ 1 + length after
    taken_one = let l = taken 10 after t.0 in let w = ascii_length 10 (omega arith) in omega arith
feed_taken before after false t = subst (λ z. SkipsFeed 13 before z) (sym t.0) (stays (chars before) t.1, (0, sym (zero-add (length before)), sym (zero-add (length (chars before)))))
  where
    stays : (cs : List ℕ) → option_eq nat_eq (slice_get cs 0) (Some 10) ≡ false → cs ≡ after_line_end (13 ∷ cs)
    stays [] e = refl
    stays (d ∷ cs) e = rw e refl

pub feed_kept : (c : ℕ) (before : List ℕ) → (c == 13) ≡ false → SkipsFeed c before before
feed_kept c before n = (stays (chars before), (0, sym (zero-add (length before)), sym (zero-add (length (chars before)))))
  where
    stays : (cs : List ℕ) → cs ≡ after_line_end (c ∷ cs)
    stays [] = refl
    stays (d ∷ cs) = rw n refl

inside_character : (q : ℕ) (long : Bool) (c : ℕ) (cs : List ℕ) → closes q long (c ∷ cs) ≡ false → opens_escape (c ∷ cs) ≡ false → is_line_end c ≡ false → inside_of q long (c ∷ cs) ≡ character
inside_character q long c cs e f g = rw e (rw f (rw g refl))

inside_line_end : (q : ℕ) (long : Bool) (c : ℕ) (cs : List ℕ) → closes q long (c ∷ cs) ≡ false → opens_escape (c ∷ cs) ≡ false → is_line_end c ≡ true → inside_of q long (c ∷ cs) ≡ line_end
inside_line_end q long c cs e f g = rw e (rw f (rw g refl))

pub inside_escape : (q : ℕ) (long : Bool) (cs : List ℕ) → closes q long cs ≡ false → opens_escape cs ≡ true → inside_of q long cs ≡ escape
inside_escape q long [] e f = absurd (true≢false (sym f))
inside_escape q long (c ∷ cs) e f = rw e (rw f refl)

-- What stands where `bs` is left and neither the closing quotes nor an escape come next.
module _ (end q : ℕ) (long : Bool) (bs : List ℕ) (kept : closes q long (chars bs) ≡ false) where
  pub open_end : (start : ℕ) → length bs ≡ 0 → FailsInside end q long start bs open_literal start
  open_end start n = (unclosed, by.ReadsInside.at_end (none bs n), (refl, refl))
    where
      none : (ds : List ℕ) → length ds ≡ 0 → inside_of q long (chars ds) ≡ nothing
      none [] e = subst (λ z. inside_of q long z ≡ nothing) (sym chars-nil) refl
      none (x ∷ ds) e = absurd (omega (arith, e))

  pub over_escape : (c : ℕ) (after : List ℕ) → opens_escape (chars bs) ≡ true → length bs ≤ end → TakesEscape end bs c after → is_quote c ≡ false → TakesInside end q long bs (Some c) after
  over_escape c after o le t n s e r =
      let l = t.size in
      let p : place end after ≡ place end bs + (length t.digits + 4) = omega arith in
      by.over_escape (inside_escape q long (chars bs) kept o) t.escape n (subst (λ z. ReadsInside q long z (chars after) s e) p r) refl

  pub bad_inside : (f : Fault) (p start : ℕ) → opens_escape (chars bs) ≡ true → FailsEscape end bs f p → FailsInside end q long start bs f p
  bad_inside bad_escape p start o t = (bad (place end bs), by.at_bad_escape (inside_escape q long (chars bs) kept o) t.1, (refl, t.0))
  bad_inside escape_refused p start o (e, (n, after, t, k)) = (refused (place end bs), by.at_quote_escape (inside_escape q long (chars bs) kept o) t.escape k, (refl, e))
  bad_inside by.bad_utf8 p start o t = elim t [ ]
  bad_inside by.bad_character p start o t = elim t [ ]
  bad_inside open_literal p start o t = elim t [ ]
  bad_inside by.literal_too_long p start o t = elim t [ ]
  bad_inside by.name_too_long p start o t = elim t [ ]

  module _ (plain : opens_escape (chars bs) ≡ false) (c : ℕ) (rest : List ℕ) (utf8 : IsUtf8 bs) (bytes : bs ≡ encode_utf8 c ++ rest) (le : length bs ≤ end) where
    spelled : chars bs ≡ c ∷ chars rest
    spelled = chars_past_char bs rest c utf8 bytes

    pub over_character : is_line_end c ≡ false → TakesInside end q long bs (Some c) rest
    over_character n s e r =
        let l = taken c rest bytes in
        let w : length (encode_utf8_all (c ∷ [])) ≡ length (encode_utf8 c) + 0 = length-append (encode_utf8 c) [] in
        let p : place end rest ≡ place end bs + length (encode_utf8_all (c ∷ [])) = omega arith in
        let here = inside_character q long c (chars rest) (subst (λ z. closes q long z ≡ false) spelled kept) (subst (λ z. opens_escape z ≡ false) spelled plain) n in
        subst (λ z. ReadsInside q long (place end bs) z (encode_utf8 c ++ s) e) (sym spelled)
        (by.over_character here (subst (λ z. ReadsInside q long z (chars rest) s e) p r) refl)

    line_here : is_line_end c ≡ true → inside_of q long (c ∷ chars rest) ≡ line_end
    line_here n = inside_line_end q long c (chars rest) (subst (λ z. closes q long z ≡ false) spelled kept) (subst (λ z. opens_escape z ≡ false) spelled plain) n

    pub open_line : (start : ℕ) → is_line_end c ≡ true → long ≡ false → FailsInside end q long start bs open_literal start
    open_line start n short = (unclosed, by.at_line_end short (subst (λ z. inside_of q long z ≡ line_end) (sym spelled) (line_here n)), (refl, refl))

    pub over_line_end : (after : List ℕ) → is_line_end c ≡ true → c < 128 → long ≡ true → SkipsFeed c rest after → TakesInside end q long bs (Some 10) after
    over_line_end after n small is_long f s e r =
        let l = taken c rest bytes in
        let w = ascii_length c small in
        let k = f.1.1 in
        let m = f.1.2 in
        let size : length (c ∷ chars rest) ≡ suc (length (chars rest)) = refl in
        let p : place end after ≡ place end bs + (length (c ∷ chars rest) - length (chars after)) = omega arith in
        subst (λ z. ReadsInside q long (place end bs) z (encode_utf8 10 ++ s) e) (sym spelled)
        (subst (λ z. ReadsInside q long (place end bs) (c ∷ chars rest) (z ++ s) e) (sym (encode_ascii 10 (omega arith)))
        (by.over_line_end is_long (line_here n) f.0 (subst (λ z. ReadsInside q long z (chars after) s e) p r)))

pub line_small : (c : ℕ) → is_line_end c ≡ true → c < 128
line_small c e = grind (arith, nat_tests)
