-- Places of names in a word, by where the word ends.
use Rattle.std.proofs.Common.{◌≡◌, ℕ, ◌+◌, ◌-◌, ◌<◌, ◌≤◌, true, false, List, [], ◌∷◌, ◌++◌, length, refl, sym, ap, ◌∙◌, subst, arith, inl, inr, length-append, if◌then◌else◌, encode_utf8, encode_utf8_all, chars, Result, Ok, Err, IfErr}
use Rattle.std.specs.List.{list_all}
use Rattle.std.proofs.lemmas.Str.{encodes-append, length-encode, len_utf8_ascii}
use Rattle.rng_model.specs.Names.{is_name_start, is_name_char, are_name_chars}
use Rattle.token_laws.specs.Tokens.{Token, ident, cname, ns_name}
use Rattle.token_laws.specs.Lexing.{width, start_of, at_word, Spells, begins_backslash, IsTooLong, Joined, Reads, name_too_long, Fault}
use Rattle.token_laws.specs.Lexing as by
use Rattle.token_laws.proofs.Runs.{both}
use Rattle.rnc_lexer.specs.Steps.{place, TakesWord, StopsAnywhere}
use Rattle.rnc_lexer.proofs.Leads.{word_length, not_start}
use Rattle.rnc_lexer.proofs.NameForms.{no_start}
use Rattle.rnc_lexer.specs.Views.{IsFault}
use Rattle.rnc_lexer.specs.declared.faults.LexFault.{LexFault}

-- the width of a list is the sum of its parts'
width-append : (xs ys : List ℕ) → width (xs ++ ys) ≡ width xs + width ys
width-append xs ys = ap length (encodes-append xs ys) ∙ length-append (encode_utf8_all xs) (encode_utf8_all ys)

width-ascii : (c : ℕ) (xs : List ℕ) → c < 128 → width (c ∷ xs) ≡ 1 + width xs
width-ascii c xs h =
    let l : width (c ∷ xs) ≡ length (encode_utf8 c) + width xs = length-append (encode_utf8 c) (encode_utf8_all xs) in
    let k : length (encode_utf8 c) ≡ 1 = length-encode c ∙ len_utf8_ascii c h in
    omega arith

name_plain : (xs : List ℕ) → are_name_chars xs ≡ true → begins_backslash xs ≡ false
name_plain [] e = refl
name_plain (c ∷ cs) e = not_start c 92 (both (is_name_start c) (list_all is_name_char cs) e).0 no_start

-- the last name ends where the word ends
ident_place : (n xs : List ℕ) (a b : ℕ) → Spells (ident n) xs → b ≡ a + width xs → b - length n ≡ (if begins_backslash xs then a + 1 else a)
ident_place n xs a b (inl (s, _)) e =
    let l : length n ≡ width xs = ap length s.0 in
    rw (name_plain xs s.1) (omega arith)
ident_place n xs a b (inr (ys, same, s)) e =
    let l : length n ≡ width ys = ap length s.0 in
    let w : width xs ≡ 1 + width ys = ap width same ∙ width-ascii 92 ys (omega arith) in
    rw same (omega arith)

cname_place : (m n xs : List ℕ) (a b : ℕ) → Spells (cname m n) xs → b ≡ a + width xs → b - length n ≡ a + length m + 1
cname_place m n xs a b (ys, zs, same, f, g) e =
    let k : length m ≡ width ys = ap length f.0 in
    let l : length n ≡ width zs = ap length g.0 in
    let t : width (58 ∷ zs) ≡ 1 + width zs = width-ascii 58 zs (omega arith) in
    let w : width xs ≡ width ys + width (58 ∷ zs) = ap width same ∙ width-append ys (58 ∷ zs) in
    omega arith

behind : (end : ℕ) {before after : List ℕ} {t : Token} (w : TakesWord before t after) → length before ≤ end → place end after ≡ place end before + width w.characters
behind end w le = let l = word_length w in omega arith

-- the last name is no longer than what has been read
pub last_fits : (end : ℕ) {before after : List ℕ} {n : List ℕ} → TakesWord before (ident n) after → length before ≤ end → length n ≤ place end after
last_fits end {before = before} {after = after} {n = n} w le = go w.word.spelling
  where
    b : place end after ≡ place end before + width w.characters
    b = behind end w le

    go : Spells (ident n) w.characters → length n ≤ place end after
    go (inl (s, _)) = let l : length n ≡ width w.characters = ap length s.0 in omega (arith, b)
    go (inr (ys, same, s)) =
        let l : length n ≡ width ys = ap length s.0 in
        let k : width w.characters ≡ 1 + width ys = ap width same ∙ width-ascii 92 ys (omega arith) in
        omega (arith, b)

pub second_fits : (end : ℕ) {before after : List ℕ} {m n : List ℕ} → TakesWord before (cname m n) after → length before ≤ end → length n ≤ place end after
second_fits end {before = before} {after = after} {m = m} {n = n} w le = go w.word.spelling
  where
    b : place end after ≡ place end before + width w.characters
    b = behind end w le

    go : Spells (cname m n) w.characters → length n ≤ place end after
    go (ys, zs, same, f, g) =
        let l : length n ≡ width zs = ap length g.0 in
        let t : width (58 ∷ zs) ≡ 1 + width zs = width-ascii 58 zs (omega arith) in
        let k : width w.characters ≡ width ys + width (58 ∷ zs) = ap width same ∙ width-append ys (58 ∷ zs) in
        omega (arith, b)

pub long_ident : (end p : ℕ) {before after n : List ℕ} → start_of (chars before) ≡ at_word → (w : TakesWord before (ident n) after) → length before ≤ end → 1024 < length n → p ≡ place end after - length n → StopsAnywhere end before name_too_long p
long_ident end p {n = n} st w le l e j = by.long_name st w.word (l, e ∙ ident_place n w.characters _ _ w.word.spelling (behind end w le))

pub long_second : (end p : ℕ) {before after m n : List ℕ} → start_of (chars before) ≡ at_word → (w : TakesWord before (cname m n) after) → length before ≤ end → length m ≤ 1024 → 1024 < length n →
    p ≡ place end after - length n → StopsAnywhere end before name_too_long p
long_second end p {m = m} {n = n} st w le s l e j = by.long_name st w.word (inr (s, l, e ∙ cname_place m n w.characters _ _ w.word.spelling (behind end w le)))

pub long_first : (end p : ℕ) {before after m n : List ℕ} → start_of (chars before) ≡ at_word → TakesWord before (cname m n) after → 1024 < length m → p ≡ place end before → StopsAnywhere end before name_too_long p
long_first end p st w l e j = by.long_name st w.word (inl (l, e))

pub long_prefix : (end p : ℕ) {before after m : List ℕ} → start_of (chars before) ≡ at_word → TakesWord before (ns_name m) after → 1024 < length m → p ≡ place end before → StopsAnywhere end before name_too_long p
long_prefix end p st w l e j = by.long_name st w.word (l, e)

-- a name that is refused
pub refuse : {T : Type 0} (r : Result T LexFault) (p : ℕ) (n : List ℕ) (P : Fault → ℕ → Type 0) → IfErr r (λ f. (f ≡ LexFault.NameTooLong p) × (1024 < length n)) → (1024 < length n → P name_too_long p) → IfErr r (IsFault P)
refuse (Ok x) p n P h k = tt
refuse (Err e) p n P h k = subst (IsFault P) (sym h.0) (k h.1)
