-- The places of a text's tokens ascend, and are below the length of the text.
use Rattle.std.proofs.Common.{◌≡◌, ℕ, zero, suc, ◌+◌, ◌-◌, ◌<◌, ◌≤◌, Bool, true, false, ◌&&◌, ◌==◌, inl, inr, List, [], ◌∷◌, ◌++◌, length, drop, refl, sym, ap, ◌∙◌, subst, arith, length-append, if◌then◌else◌, encode_utf8, encode_utf8_all}
use Rattle.std.specs.Prelude.{⊤}
use Rattle.std.specs.Char.{len_utf8}
use Rattle.std.proofs.lemmas.Bool.{eqb-true}
use Rattle.std.proofs.lemmas.Str.{encodes-append, encodes-chars, length-encode, len_utf8_bounds}
use Rattle.rng_model.specs.Texts.{Text}
use Rattle.rng_model.specs.Names.{are_name_chars}
use Rattle.token_laws.specs.Tokens.{Symbol, Token, keyword, ident, cname, ns_name, segment, symbol, Placed, ◌at◌}
use Rattle.token_laws.specs.Tokens as word
use Rattle.token_laws.specs.Spellings.{keyword_text, symbol_text}
use Rattle.token_laws.specs.Lexing.{width, is_line_end, begins_three, opens_escape, Spells, SegmentEnd, closed, unclosed, bad, refused, Inside, quotes, escape, line_end, character, closes, inside_of, after_line_end, ReadsInside, ReadsSegment, Joined, Ending, Reads, begins_mark, ReadsText, Tokens}
use Rattle.token_laws.specs.Lexing as by
use Rattle.token_laws.proofs.Runs.{clash, keyword_names}

-- the places ascend from `low` on, below `end`
abbrev pub AreAscending : ℕ → ℕ → List Placed → Type 0
AreAscending low end [] = ⊤
AreAscending low end (t at a ∷ ts) = (low ≤ a) × (a < end) × AreAscending (suc a) end ts

lower : (low high end : ℕ) (ts : List Placed) → low ≤ high → AreAscending high end ts → AreAscending low end ts
lower low high end [] h asc = tt
lower low high end (t at a ∷ ts) h asc = (omega arith, asc.1, asc.2)

-- Widths.
width-append : (xs ys : List ℕ) → width (xs ++ ys) ≡ width xs + width ys
width-append xs ys = ap length (encodes-append xs ys) ∙ length-append (encode_utf8_all xs) (encode_utf8_all ys)

width-one : (c : ℕ) (cs : List ℕ) → 1 + width cs ≤ width (c ∷ cs)
width-one c cs =
    let l : width (c ∷ cs) ≡ length (encode_utf8 c) + width cs = length-append (encode_utf8 c) (encode_utf8_all cs) in
    omega (arith, l, length-encode c, (len_utf8_bounds c).0)

width-some : (xs ys : List ℕ) → length xs + width ys ≤ width (xs ++ ys)
width-some [] ys = omega arith
width-some (x ∷ xs) ys = omega (arith, width-some xs ys, width-one x (xs ++ ys))

width-drop : (n : ℕ) (cs : List ℕ) → n ≤ length cs → n + width (drop n cs) ≤ width cs
width-drop zero cs h = omega arith
width-drop (suc n) [] h = absurd (omega arith)
width-drop (suc n) (c ∷ cs) h = omega (arith, width-drop n cs (omega arith), width-one c cs)

-- Words.
symbol_some : (s : Symbol) → 1 ≤ length (symbol_text s)
symbol_some word.open_brace = omega arith
symbol_some word.close_brace = omega arith
symbol_some word.open_paren = omega arith
symbol_some word.close_paren = omega arith
symbol_some word.open_bracket = omega arith
symbol_some word.close_bracket = omega arith
symbol_some word.equals = omega arith
symbol_some word.bar_equals = omega arith
symbol_some word.ampersand_equals = omega arith
symbol_some word.comma = omega arith
symbol_some word.ampersand = omega arith
symbol_some word.bar = omega arith
symbol_some word.question = omega arith
symbol_some word.star = omega arith
symbol_some word.plus = omega arith
symbol_some word.minus = omega arith
symbol_some word.tilde = omega arith
symbol_some word.follows = omega arith

name_some : (xs : List ℕ) → are_name_chars xs ≡ true → 1 ≤ length xs
name_some [] e = clash e refl
name_some (x ∷ xs) e = omega arith

-- a spelling has a character
word_some : (t : Token) (xs : List ℕ) → Spells t xs → 1 ≤ length xs
word_some (keyword k) xs s = subst (λ z. 1 ≤ length z) (sym s) (name_some (keyword_text k) (keyword_names k))
word_some (ident n) xs (inl (s, _)) = name_some xs s.1
word_some (ident n) xs (inr (ys, s, _)) = subst (λ z. 1 ≤ length z) (sym s) (omega arith)
word_some (cname p n) xs (ys, zs, s, _, _) = subst (λ z. 1 ≤ length z) (sym s) (omega (arith, length-append ys (58 ∷ zs)))
word_some (ns_name p) xs (ys, s, _) = subst (λ z. 1 ≤ length z) (sym s) (omega (arith, length-append ys (58 ∷ 42 ∷ [])))
word_some (segment t) xs s = absurd s
word_some (symbol t) xs s = subst (λ z. 1 ≤ length z) (sym s) (symbol_some t)

-- Segments.

-- a closed segment ends at `low` or later, and what is left of the text is within `total`
abbrev Ends : ℕ → ℕ → SegmentEnd → Type 0
Ends low total (closed b rest) = (low ≤ b) × (b + width rest ≤ total)
Ends low total e = ⊤

widen : (low high total more : ℕ) (e : SegmentEnd) → low ≤ high → total ≤ more → Ends high total e → Ends low more e
widen low high total more (closed b rest) h k w = (omega arith, omega arith)
widen low high total more unclosed h k w = tt
widen low high total more (bad b) h k w = tt
widen low high total more (refused b) h k w = tt

three_some : (q : ℕ) (cs : List ℕ) → begins_three q cs ≡ true → 3 ≤ length cs
three_some q [] e = clash e refl
three_some q (a ∷ []) e = clash e refl
three_some q (a ∷ b ∷ []) e = clash e refl
three_some q (a ∷ b ∷ c ∷ cs) e = omega arith

quotes_some : (q : ℕ) (long : Bool) (cs : List ℕ) → closes q long cs ≡ true → (if long then 3 else 1) ≤ length cs
quotes_some q true cs e = three_some q cs e
quotes_some q false [] e = clash e refl
quotes_some q false (c ∷ cs) e = omega arith

at_quotes : (q : ℕ) (long : Bool) (cs : List ℕ) → inside_of q long cs ≡ quotes → closes q long cs ≡ true
at_quotes q long [] e = absurd (no e)
  where
    no : Inside.nothing ≡ quotes → ⊥
    no e = cc
at_quotes q long (c ∷ cs) e = go (closes q long (c ∷ cs)) refl e
  where
    no : (x y : Bool) → (if x then escape else if y then line_end else character) ≡ quotes → ⊥
    no true y e = cc
    no false true e = cc
    no false false e = cc

    go : (b : Bool) → closes q long (c ∷ cs) ≡ b → (if b then quotes else if opens_escape (c ∷ cs) then escape else if is_line_end c then line_end else character) ≡ quotes → closes q long (c ∷ cs) ≡ true
    go true s e = s
    go false s e = absurd (no (opens_escape (c ∷ cs)) (is_line_end c) e)

line_end_width : (cs : List ℕ) → (length cs - length (after_line_end cs)) + width (after_line_end cs) ≤ width cs
line_end_width [] = omega arith
line_end_width (c ∷ []) = omega (arith, width-one c [])
line_end_width (c ∷ d ∷ cs) = go (c == 13 && d == 10)
  where
    go : (b : Bool) → (length (c ∷ d ∷ cs) - length (if b then cs else d ∷ cs)) + width (if b then cs else d ∷ cs) ≤ width (c ∷ d ∷ cs)
    go true = omega (arith, width-one c (d ∷ cs), width-one d cs)
    go false = omega (arith, width-one c (d ∷ cs))

inside : (q : ℕ) (long : Bool) {a : ℕ} {cs : List ℕ} {s : Text} {e : SegmentEnd} → ReadsInside q long a cs s e → Ends a (a + width cs) e
inside q long (by.at_end k) = tt
inside q long (by.ReadsInside.at_quotes {a = a} {b = b} {cs = cs} {rest = rest} k n r) =
    let h = width-drop (if long then 3 else 1) cs (quotes_some q long cs (at_quotes q long cs k)) in
    let l : width rest ≡ width (drop (if long then 3 else 1) cs) = ap width (r ∙ ap (λ z. drop z cs) n) in
    (omega arith, omega (arith, h, l, n))
inside q long (by.at_line_end k l) = tt
inside q long (by.over_line_end {a = a} {cs = cs} {rest = rest} {e = e} k l same r) =
    let h = line_end_width cs in
    let w : width rest ≡ width (after_line_end cs) = ap width same in
    let m : length rest ≡ length (after_line_end cs) = ap length same in
    widen a (a + (length cs - length rest)) (a + (length cs - length rest) + width rest) (a + width cs) e (omega arith) (omega (arith, h, w, m)) (inside q long r)
inside q long (by.over_character {a = a} {c = c} {cs = cs} {e = e} k r made) =
    let w : width (c ∷ cs) ≡ width (c ∷ []) + width cs = width-append (c ∷ []) cs in
    widen a (a + width (c ∷ [])) (a + width (c ∷ []) + width cs) (a + width (c ∷ cs)) e (omega arith) (omega (arith, w)) (inside q long r)
inside q long (by.over_escape {a = a} {cs = cs} {digits = digits} {rest = rest} {e = e} k x n r made) =
    let tail = digits ++ 125 ∷ rest in
    let w : width cs ≡ width (92 ∷ 120 ∷ 123 ∷ tail) = ap width x.spelled in
    let h = width-some (92 ∷ 120 ∷ 123 ∷ []) tail in
    let l = width-some digits (125 ∷ rest) in
    let m = width-one 125 rest in
    widen a (a + (length digits + 4)) (a + (length digits + 4) + width rest) (a + width cs) e (omega arith) (omega (arith, w, h, l, m)) (inside q long r)
inside q long (by.at_quote_escape k x n) = tt
inside q long (by.at_bad_escape k x) = tt

segment_ends : {a : ℕ} {cs : List ℕ} {s : Text} {e : SegmentEnd} → ReadsSegment a cs s e → Ends (suc a) (a + width cs) e
segment_ends (by.long {a = a} {q = q} {cs = cs} {e = e} k r) =
    let h = width-drop 2 cs (omega (arith, three_some q (q ∷ cs) k)) in
    widen (suc a) (a + 3) (a + 3 + width (drop 2 cs)) (a + width (q ∷ cs)) e (omega arith) (omega (arith, h, width-one q cs)) (inside q true r)
segment_ends (by.short {a = a} {q = q} {cs = cs} {e = e} k r) =
    widen (suc a) (a + 1) (a + 1 + width cs) (a + width (q ∷ cs)) e (omega arith) (omega (arith, width-one q cs)) (inside q false r)

-- The whole text.
reading : (end : ℕ) {j : Joined} {a : ℕ} {cs : List ℕ} {ts : List Placed} {e : Ending} → Reads j a cs ts e → a + width cs ≤ end → AreAscending a end ts
reading end (by.ends k) h = tt
reading end (by.blank {a = a} {c = c} {cs = cs} {ts = ts} k r) h = lower a (a + 1) end ts (omega arith) (reading end r (omega (arith, h, width-one c cs)))
reading end (by.comment {a = a} {cs = cs} {xs = xs} {rest = rest} {ts = ts} k x r) h =
    let w : width cs ≡ width xs + width rest = ap width x.spelled ∙ width-append xs rest in
    lower a (a + width xs) end ts (omega arith) (reading end r (omega (arith, h, w)))
reading end (by.literal {a = a} {b = b} {cs = cs} {rest = rest} {ts = ts} k x n r) h =
    let w = segment_ends x in
    (omega arith, omega (arith, h, w.0, w.1), lower (suc a) b end ts w.0 (reading end r (omega (arith, h, w.1))))
reading end (by.long_literal k x n) h = tt
reading end (by.faulty_literal k x n) h = tt
reading end (by.Reads.escape k) h = tt
reading end (by.word {a = a} {t = t} {cs = cs} {xs = xs} {rest = rest} {ts = ts} k x n r) h =
    let w : width cs ≡ width xs + width rest = ap width x.spelled ∙ width-append xs rest in
    let l : length xs + width [] ≤ width (xs ++ []) = width-some xs [] in
    let m : width (xs ++ []) ≡ width xs + width [] = width-append xs [] in
    let o = word_some t xs x.spelling in
    (omega arith, omega (arith, h, w, l, m, o), lower (suc a) (a + width xs) end ts (omega (arith, l, m, o)) (reading end r (omega (arith, h, w))))
reading end (by.long_name k x n) h = tt
reading end (by.no_word k n) h = tt

mark_width : (c : ℕ) (cs : List ℕ) → begins_mark (c ∷ cs) ≡ true → 3 + width cs ≤ width (c ∷ cs)
mark_width c cs e =
    let l : width (c ∷ cs) ≡ length (encode_utf8 c) + width cs = length-append (encode_utf8 c) (encode_utf8_all cs) in
    let m : length (encode_utf8 c) ≡ 3 = length-encode c ∙ ap len_utf8 (eqb-true c 0xFEFF e) in
    omega (arith, l, m)

text_ascends : {cs : List ℕ} {ts : List Placed} {e : Ending} → ReadsText cs ts e → AreAscending 0 (width cs) ts
text_ascends (by.marked {c = c} {cs = cs} {ts = ts} k r) = lower 0 3 (width (c ∷ cs)) ts (omega arith) (reading (width (c ∷ cs)) r (mark_width c cs k))
text_ascends (by.ReadsText.plain {cs = cs} k r) = reading (width cs) r (omega arith)

pub places_ascend : {bytes : List ℕ} {ts : List Placed} → Tokens bytes ts → AreAscending 0 (length bytes) ts
places_ascend {bytes = bytes} {ts = ts} lexed = subst (λ z. AreAscending 0 (length z) ts) (encodes-chars bytes lexed.utf8) (text_ascends lexed.reads)
