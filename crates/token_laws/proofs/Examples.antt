-- The worked examples of reading.
use Rattle.std.proofs.Common.{◌≡◌, ◌≢◌, ℕ, ◌<◌, true, false, inl, List, [], ◌∷◌, ◌++◌, refl, sym, ap, ◌∙◌, subst, arith, codes, IsUtf8, take}
use Rattle.std.specs.Char.{encode_utf8, is_digit}
use Rattle.std.specs.Str.{is_utf8, chars}
use Rattle.std.proofs.lemmas.Str.{IsUtf8-from_is_utf8, is_utf8-from_IsUtf8}
use Rattle.std.proofs.lemmas.List.{take_all}
use Rattle.rng_model.specs.Names.{is_name_start, is_name_char, are_name_chars}
use Rattle.token_laws.specs.Tokens.{Token, keyword, ident, symbol, segment, open_brace, close_brace, Placed, ◌at◌}
use Rattle.token_laws.specs.Tokens as word
use Rattle.token_laws.specs.Spellings.{keyword_text}
use Rattle.token_laws.specs.Lexing.{is_allowed, width, EndsRun, Spells, IsWord, Joined, apart, after_word, Ending, done, fault, bad_character, open_literal, bad_escape, escape_refused, Reads, ReadsText, ReadsSegment, ReadsInside, IsEscape, hex_value, unclosed, bad, refused, inside_of, escape, start_of, at_word, Tokens, LexRefusal, bad_utf8, name_too_long}
use Rattle.token_laws.specs.Lexing as by
use Rattle.token_laws.specs.Examples.{one_element, ill_formed}
use Rattle.token_laws.proofs.Runs.{clash, one_run, tail_same}
use Rattle.token_laws.specs.Beginnings.{goes_on}
use Rattle.token_laws.proofs.Words.{longest_name, longest_single, no_word}

-- a keyword and what stands behind it
keyword_word : (k : word.Keyword) (rest : List ℕ) → are_name_chars (keyword_text k) ≡ true → EndsRun is_name_char rest → goes_on rest ≡ false → IsWord (keyword_text k ++ rest) (keyword k) (keyword_text k) rest
keyword_word k rest a e n = record { spelled = refl; spelling = refl; longest = longest_name (keyword_text k) rest a e n }

-- `element a { ` and what stands behind it
after_element_a : (cs : List ℕ) {ts : List Placed} {e : Ending} → Reads apart 12 cs ts e →
    Reads apart 0 (codes "element a { " ++ cs) (keyword word.element at 0 ∷ ident (codes "a") at 8 ∷ symbol open_brace at 10 ∷ ts) e
unfolding is_name_start is_name_char encode_utf8
after_element_a cs r =
    by.word {xs = codes "element"} {rest = codes " a { " ++ cs} refl (keyword_word word.element (codes " a { " ++ cs) refl refl refl) tt
    (by.blank refl
    (by.word {xs = codes "a"} {rest = codes " { " ++ cs} refl
    (record { spelled = refl; spelling = inl ((refl, refl), no_keyword); longest = longest_name (codes "a") (codes " { " ++ cs) refl refl refl })
    (omega arith)
    (by.blank refl
    (by.word {xs = codes "{"} {rest = 32 ∷ cs} refl (record { spelled = refl; spelling = refl; longest = longest_single 123 (32 ∷ cs) refl refl refl }) tt
    (by.blank refl r)))))
  where
    no_keyword : (k : word.Keyword) → codes "a" ≢ keyword_text k
    no_keyword word.attribute e = cc
    no_keyword word.default e = cc
    no_keyword word.datatypes e = cc
    no_keyword word.div e = cc
    no_keyword word.element e = cc
    no_keyword word.empty e = cc
    no_keyword word.external e = cc
    no_keyword word.grammar e = cc
    no_keyword word.include e = cc
    no_keyword word.inherit e = cc
    no_keyword word.list e = cc
    no_keyword word.mixed e = cc
    no_keyword word.namespace e = cc
    no_keyword word.not_allowed e = cc
    no_keyword word.parent e = cc
    no_keyword word.start e = cc
    no_keyword word.string e = cc
    no_keyword word.text e = cc
    no_keyword word.token e = cc

-- the texts are UTF-8 of allowed characters
pub tokens_of_element : Tokens (codes "element a { empty }") one_element
unfolding is_utf8 chars encode_utf8 is_name_start is_name_char
tokens_of_element = record {
  utf8 = IsUtf8-from_is_utf8 (codes "element a { empty }") refl;
  allowed = refl;
  reads = by.plain refl (after_element_a (codes "empty }")
      (by.word {xs = codes "empty"} {rest = codes " }"} refl (keyword_word word.empty (codes " }") refl refl refl) tt
      (by.blank refl
      (by.word {xs = codes "}"} {rest = []} refl (record { spelled = refl; spelling = refl; longest = longest_single 125 [] refl refl refl }) tt
      (by.ends refl)))));
}

pub ill_formed_byte : LexRefusal ill_formed bad_utf8 9
unfolding is_utf8 chars encode_utf8
ill_formed_byte = by.LexRefusal.utf8 (record { short = omega arith; front = IsUtf8-from_is_utf8 (codes "element a") refl; longest = whole })
  where
    whole : (m : ℕ) → 9 < m → IsUtf8 (take m ill_formed) → ⊥
    whole m more u =
        let all : take m ill_formed ≡ ill_formed = take_all m ill_formed (omega arith) in
        let h : is_utf8 ill_formed ≡ true = is_utf8-from_IsUtf8 ill_formed (subst IsUtf8 all u) in
        clash h refl

pub stray_character : LexRefusal (codes "element $ { empty }") bad_character 8
unfolding is_utf8 chars encode_utf8 is_name_start is_name_char
stray_character =
    by.LexRefusal.token (IsUtf8-from_is_utf8 (codes "element $ { empty }") refl) refl
    (by.plain refl
    (by.word {xs = codes "element"} {rest = codes " $ { empty }"} refl (keyword_word word.element (codes " $ { empty }") refl refl refl) tt
    (by.blank refl
    (by.no_word refl (no_word (codes "$ { empty }") refl refl refl refl)))))

pub unclosed_literal : LexRefusal (codes "element a { \"x") open_literal 12
unfolding is_utf8 chars encode_utf8
unclosed_literal =
    by.LexRefusal.token (IsUtf8-from_is_utf8 (codes "element a { \"x") refl) refl
    (by.plain refl (after_element_a (codes "\"x")
    (by.faulty_literal refl (by.short refl (by.over_character refl (by.ReadsInside.at_end refl) refl)) (refl, refl))))

pub quote_escape : LexRefusal (codes "element a { \"\\x{22}\" }") escape_refused 13
unfolding is_utf8 chars encode_utf8
quote_escape =
    by.LexRefusal.token (IsUtf8-from_is_utf8 (codes "element a { \"\\x{22}\" }") refl) refl
    (by.plain refl (after_element_a (codes "\"\\x{22}\" }")
    (by.faulty_literal refl (by.short refl (by.at_quote_escape {digits = codes "22"} refl
    (record { spelled = refl; hexadecimal = refl; some = omega arith; few = omega arith; number = refl; allowed = refl }) refl)) (refl, refl))))

-- the number of an escape is that of its digits
beyond : (n : ℕ) (digits rest : List ℕ) → IsEscape (codes "\\x{110000}\" }") n digits rest → ⊥
beyond n digits rest x =
    let r = one_run (λ d. is_digit d 16) digits (125 ∷ rest) (codes "110000") (codes "}\" }") x.hexadecimal refl refl refl (sym (tail_same (tail_same (tail_same x.spelled)))) in
    let number : n ≡ 0x110000 = x.number ∙ ap (hex_value 0) r.0 in
    clash x.allowed (ap is_allowed number)

pub escape_beyond : LexRefusal (codes "element a { \"\\x{110000}\" }") bad_escape 13
unfolding is_utf8 chars encode_utf8
escape_beyond =
    by.LexRefusal.token (IsUtf8-from_is_utf8 (codes "element a { \"\\x{110000}\" }") refl) refl
    (by.plain refl (after_element_a (codes "\"\\x{110000}\" }")
    (by.faulty_literal refl (by.short refl (by.at_bad_escape refl beyond)) (refl, refl))))

pub escape_outside : LexRefusal (codes "\\x{65}lement a { empty }") escape_refused 0
unfolding is_utf8 chars encode_utf8
escape_outside =
    by.LexRefusal.token (IsUtf8-from_is_utf8 (codes "\\x{65}lement a { empty }") refl) refl
    (by.plain refl (by.Reads.escape refl))
