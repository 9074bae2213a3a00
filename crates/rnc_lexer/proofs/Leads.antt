-- The loop over tokens.
use Rattle.std.proofs.Common.{◌≡◌, ℕ, ◌+◌, ◌<◌, ◌≤◌, Bool, true, false, ◌==◌, if◌then◌else◌, List, [], ◌∷◌, ◌++◌, length, refl, sym, ap, ◌∙◌, subst, arith, inl, inr, append_assoc, length-append, encode_utf8, encode_utf8_all, chars, map, zero, suc, true≢false, slice_get, slice_index_or, Some, subst₂, nat_eq, None, append-nil, IsUtf8, Result, Ok, Err, IfOk}
use Rattle.std.specs.Option.{option_eq}
use Rattle.std.specs.List.{list_all}
use Rattle.rnc_lexer.specs.declared.tokens.Token as tokens
use Rattle.rnc_lexer.specs.declared.faults.LexFault.{LexFault}
use Rattle.std.proofs.lemmas.Str.{length-encode, len_utf8_bounds}
use Rattle.rng_model.specs.Names.{is_name_start}
use Rattle.token_laws.specs.Tokens.{Keyword, Symbol, Token, keyword, ident, cname, ns_name, segment, symbol, Placed, ◌at◌}
use Rattle.token_laws.specs.Tokens as word
use Rattle.token_laws.specs.Spellings.{keyword_text, symbol_text}
use Rattle.token_laws.specs.Lexing.{width, start_of, at_blank, at_comment, at_quote, at_escape, at_word, is_quote, Start, opens_escape, Spells, AreShort, Joined, after_word, Ending, Reads, begins_mark}
use Rattle.token_laws.specs.Lexing as by
use Rattle.token_laws.proofs.Runs.{clash}
use Rattle.rng_model.specs.Texts.{is_space}
use Rattle.std.proofs.lemmas.Bool.{eqb-true}
use Rattle.rnc_lexer.specs.Views.{placed_of, token_of}
use Rattle.rnc_lexer.specs.declared.tokens.Lexed.{Lexed}
use Rattle.rnc_lexer.specs.Steps.{place, is_gap, Takes, BeginsText, TakesWord, ReadsRest, Skips, Leads, LeadsToken, after_token}

keyword_some : (k : Keyword) → 1 ≤ length (keyword_text k)
keyword_some word.attribute = omega arith
keyword_some word.default = omega arith
keyword_some word.datatypes = omega arith
keyword_some word.div = omega arith
keyword_some word.element = omega arith
keyword_some word.empty = omega arith
keyword_some word.external = omega arith
keyword_some word.grammar = omega arith
keyword_some word.include = omega arith
keyword_some word.inherit = omega arith
keyword_some word.list = omega arith
keyword_some word.mixed = omega arith
keyword_some word.namespace = omega arith
keyword_some word.not_allowed = omega arith
keyword_some word.parent = omega arith
keyword_some word.start = omega arith
keyword_some word.string = omega arith
keyword_some word.text = omega arith
keyword_some word.token = omega arith

symbol_some : (s : Symbol) → 1 ≤ length (symbol_text s)
symbol_some word.open_brace = omega arith
symbol_some word.close_brace = omega arith
symbol_some word.open_paren = omega arith
symbol_some word.close_paren = omega arith
symbol_some word.open_bracket = omega arith
symbol_some word.close_bracket = omega arith
symbol_some word.equals = omega arith
symbol_some word.bar_equals = omega arith
symbol_some word.ampersand_equals = omega arith
symbol_some word.comma = omega arith
symbol_some word.ampersand = omega arith
symbol_some word.bar = omega arith
symbol_some word.question = omega arith
symbol_some word.star = omega arith
symbol_some word.plus = omega arith
symbol_some word.minus = omega arith
symbol_some word.tilde = omega arith
symbol_some word.follows = omega arith

-- a spelling has a character
some : (t : Token) (xs : List ℕ) → Spells t xs → 1 ≤ length xs
some (keyword k) xs s = let h = keyword_some k in let e : length xs ≡ length (keyword_text k) = ap length s in omega arith
some (ident n) [] (inl (s, _)) = absurd (true≢false (sym s.1))
some (ident n) (x ∷ xs) (inl s) = omega arith
some (ident n) xs (inr (ys, s, _)) = let e : length xs ≡ length (92 ∷ ys) = ap length s in omega arith
some (cname p n) xs s =
    let tail : List ℕ = 58 ∷ s.1 in
    let e : length xs ≡ length (s.0) + length tail = ap length s.2 ∙ length-append s.0 tail in
    let f : length tail ≡ suc (length s.1) = refl in
    omega (arith, e, f)
some (ns_name p) xs s =
    let tail : List ℕ = 58 ∷ 42 ∷ [] in
    let e : length xs ≡ length (s.0) + length tail = ap length s.1 ∙ length-append s.0 tail in
    let f : length tail ≡ 2 = refl in
    omega (arith, e, f)
some (segment t) xs s = elim s [ ]
some (symbol t) xs s = let h = symbol_some t in let e : length xs ≡ length (symbol_text t) = ap length s in omega arith

width_least : (xs : List ℕ) → 1 ≤ length xs → 1 ≤ width xs
width_least [] h = absurd (omega (arith, h))
width_least (x ∷ xs) h =
    let l : width (x ∷ xs) ≡ length (encode_utf8 x) + width xs = length-append (encode_utf8 x) (encode_utf8_all xs) in
    let k = length-encode x in
    let b = (len_utf8_bounds x).0 in
    omega arith

pub word_length : {before after : List ℕ} {t : Token} (w : TakesWord before t after) → length before ≡ width w.characters + length after
word_length {after = after} w = ap length w.bytes ∙ length-append (encode_utf8_all w.characters) after

pub word_shrinks : {before after : List ℕ} {t : Token} → TakesWord before t after → length after < length before
word_shrinks {t = t} w =
    let l = word_length w in
    let k = width_least w.characters (some t w.characters w.word.spelling) in
    omega arith

pub leads_start : (end : ℕ) (j : Joined) (before after : List ℕ) → Skips end before after → Leads end j before [] j after
leads_start end j before after s us e r = s j us e r

-- tokens, then more tokens
pub leads_then : (end : ℕ) (j k l : Joined) (before mid after : List ℕ) (ts us : List Placed) → Leads end j before ts k mid → Leads end k mid us l after → Leads end j before (ts ++ us) l after
leads_then end j k l before mid after ts us f g vs e r = subst (λ z. ReadsRest end j before z e) (sym (append_assoc ts us vs)) (f (us ++ vs) e (g vs e r))

pub leads_skip : (end : ℕ) (j k : Joined) (before mid after : List ℕ) (ts : List Placed) → Leads end j before ts k mid → Skips end mid after → Leads end j before ts k after
leads_skip end j k before mid after ts f s us e r = f us e (s k us e r)

token_after : (j : Joined) (t : Token) → ((s : List ℕ) → t ≡ segment s → ⊥) → after_word j t ≡ after_token j t
token_after j (keyword k) n = refl
token_after j (ident x) n = refl
token_after j (cname p x) n = refl
token_after j (ns_name p) n = refl
token_after j (segment s) n = absurd (n s refl)
token_after j (symbol s) n = refl

no_segment : (t : Token) (xs : List ℕ) → Spells t xs → (s : List ℕ) → t ≡ segment s → ⊥
no_segment t xs h s e = subst (λ z. Spells z xs) e h

-- a word is a token
pub leads_word : (end : ℕ) (j : Joined) (before after : List ℕ) (t : Token) → length before ≤ end → start_of (chars before) ≡ at_word →
    TakesWord before t after → AreShort t → LeadsToken end j before t after
leads_word end j before after t le st w short us e r =
    let l = word_length w in
    let behind : place end after ≡ place end before + width w.characters = omega arith in
    by.word st w.word short
    (subst (λ z. Reads z (place end before + width w.characters) (chars after) us e) (sym (token_after j t (no_segment t w.characters w.word.spelling)))
    (subst (λ z. Reads (after_token j t) z (chars after) us e) behind r))

pub map_push : (xs : List Lexed) (x : Lexed) → map placed_of (xs ++ x ∷ []) ≡ map placed_of xs ++ placed_of x ∷ []
map_push [] x = refl
map_push (y ∷ xs) x = ap (λ z. placed_of y ∷ z) (map_push xs x)

-- the token with the number i
pub placed_at : (xs : List Lexed) (i : ℕ) (x : Lexed) → i < length (map placed_of xs) → x ≡ slice_index_or xs i x → slice_get (map placed_of xs) i ≡ Some (placed_of x)
placed_at [] i x h e = absurd (omega (arith, h))
placed_at (y ∷ ys) zero x h e = ap (λ z. Some (placed_of z)) (sym e)
placed_at (y ∷ ys) (suc i) x h e = let t : i < length (map placed_of ys) = omega (arith, h) in placed_at ys i x t e

-- characters that differ in whether a name may begin with them
pub not_start : (c d : ℕ) → is_name_start c ≡ true → is_name_start d ≡ false → (c == d) ≡ false
not_start c d e f = go (c == d) refl
  where
    go : (b : Bool) → (c == d) ≡ b → (c == d) ≡ false
    go true g = clash (subst (λ z. is_name_start z ≡ true) (eqb-true c d g) e) f
    go false g = g

-- What begins at a place, by its first character.
gap_chain : Bool → Bool → Bool → Bool → Start
gap_chain a b c d = if a then at_blank else if b then at_comment else if c then at_quote else if d then at_escape else at_word

quoted : (a b c d : Bool) → is_gap (gap_chain a b c d) ≡ false → c ≡ true → gap_chain a b c d ≡ at_quote
unfolding gap_chain
quoted true b c d g e = absurd (true≢false g)
quoted false true c d g e = absurd (true≢false g)
quoted false false c d g e = rw e refl

escaped : (a b c d : Bool) → is_gap (gap_chain a b c d) ≡ false → c ≡ false → d ≡ true → gap_chain a b c d ≡ at_escape
unfolding gap_chain
escaped true b c d g e f = absurd (true≢false g)
escaped false true c d g e f = absurd (true≢false g)
escaped false false c d g e f = rw e (rw f refl)

worded : (a b c d : Bool) → is_gap (gap_chain a b c d) ≡ false → c ≡ false → d ≡ false → gap_chain a b c d ≡ at_word
unfolding gap_chain
worded true b c d g e f = absurd (true≢false g)
worded false true c d g e f = absurd (true≢false g)
worded false false c d g e f = rw e (rw f refl)

starts : (c : ℕ) (cs : List ℕ) → start_of (c ∷ cs) ≡ gap_chain (is_space c) (c == 35) (is_quote c) (opens_escape (c ∷ cs))
unfolding gap_chain
starts c cs = refl

same_first : (c d : ℕ) (cs : List ℕ) → slice_get (d ∷ cs) 0 ≡ Some c → d ≡ c
same_first c d cs e = cc

none_first : (c : ℕ) → slice_get [] 0 ≡ Some c → ⊥
none_first c e = cc

pub quote_here : (c : ℕ) (cs : List ℕ) → slice_get cs 0 ≡ Some c → is_gap (start_of cs) ≡ false → is_quote c ≡ true → start_of cs ≡ at_quote
quote_here c [] e g q = absurd (none_first c e)
quote_here c (d ∷ cs) e g q =
    starts d cs ∙ quoted (is_space d) (d == 35) (is_quote d) (opens_escape (d ∷ cs)) (subst (λ z. is_gap z ≡ false) (starts d cs) g) (subst (λ z. is_quote z ≡ true) (sym (same_first c d cs e)) q)

pub escape_here : (c : ℕ) (cs : List ℕ) → slice_get cs 0 ≡ Some c → is_gap (start_of cs) ≡ false → is_quote c ≡ false → opens_escape cs ≡ true → start_of cs ≡ at_escape
escape_here c [] e g q o = absurd (none_first c e)
escape_here c (d ∷ cs) e g q o =
    starts d cs ∙ escaped (is_space d) (d == 35) (is_quote d) (opens_escape (d ∷ cs)) (subst (λ z. is_gap z ≡ false) (starts d cs) g) (subst (λ z. is_quote z ≡ false) (sym (same_first c d cs e)) q) o

pub word_here : (c : ℕ) (cs : List ℕ) → slice_get cs 0 ≡ Some c → is_gap (start_of cs) ≡ false → is_quote c ≡ false → opens_escape cs ≡ false → start_of cs ≡ at_word
word_here c [] e g q o = absurd (none_first c e)
word_here c (d ∷ cs) e g q o =
    starts d cs ∙ worded (is_space d) (d == 35) (is_quote d) (opens_escape (d ∷ cs)) (subst (λ z. is_gap z ≡ false) (starts d cs) g) (subst (λ z. is_quote z ≡ false) (sym (same_first c d cs e)) q) o

-- the rest behind a byte order mark
mark_bytes : length (encode_utf8 0xFEFF) ≡ 3
mark_bytes = length-encode 0xFEFF

no_mark : (cs : List ℕ) → option_eq nat_eq (slice_get cs 0) (Some 0xFEFF) ≡ false → begins_mark cs ≡ false
no_mark [] e = refl
no_mark (c ∷ cs) e = e

pub text_begins : (b : Bool) (text rest : List ℕ) → Takes 0xFEFF text b rest → BeginsText text rest
text_begins true text rest t ts e r =
    let l : length text ≡ length (encode_utf8 0xFEFF) + length rest = ap length t.0 ∙ length-append (encode_utf8 0xFEFF) rest in
    let m = mark_bytes in
    let p : place (length text) rest ≡ 3 = omega arith in
    subst (λ z. by.ReadsText z ts e) (sym t.1) (by.marked refl (subst (λ z. Reads by.apart z (chars rest) ts e) p r))
text_begins false text rest t ts e r =
    let l = ap length t.0 in
    let p : place (length text) rest ≡ 0 = omega arith in
    by.plain (no_mark (chars text) t.1) (subst₂ (λ z w. Reads by.apart z (chars w) ts e) p t.0 r)

-- a word as a token, if there is one
pub tokens_lead : (end : ℕ) (j : Joined) (before after : List ℕ) (r : Result tokens.Token LexFault) → length before ≤ end → start_of (chars before) ≡ at_word →
    IfOk r (λ t. TakesWord before (token_of t) after) → IfOk r (λ t. AreShort (token_of t)) → IfOk r (λ t. LeadsToken end j before (token_of t) after)
tokens_lead end j before after (Ok t) le st w s = leads_word end j before after (token_of t) le st w s
tokens_lead end j before after (Err e) le st w s = tt

pub tokens_shrink : (before after : List ℕ) (r : Result tokens.Token LexFault) → IfOk r (λ t. TakesWord before (token_of t) after) → IfOk r (λ t. length after < length before)
tokens_shrink before after (Ok t) w = word_shrinks w
tokens_shrink before after (Err e) w = tt

-- nothing is left
ends_here : (cs : List ℕ) → slice_get cs 0 ≡ None → start_of cs ≡ by.at_end
ends_here [] e = refl
ends_here (c ∷ cs) e = absurd (no_some c e)
  where
    no_some : (c : ℕ) → Some c ≡ None → ⊥
    no_some c f = cc

pub reads_all : (end : ℕ) (j k : Joined) (before after : List ℕ) (ts : List Placed) → Leads end j before ts k after → slice_get (chars after) 0 ≡ None → ReadsRest end j before ts by.done
reads_all end j k before after ts lead e = subst (λ z. ReadsRest end j before z by.done) (append-nil ts) (lead [] by.done (by.ends (ends_here (chars after) e)))

-- a fault of the rest is one of the text
pub text_fault : (bytes text rest : List ℕ) (end : ℕ) (f : by.Fault) (p : ℕ) → text ≡ bytes → IsUtf8 text → list_all by.is_allowed (chars bytes) ≡ true → end ≡ length text → BeginsText text rest →
    (ts : List Placed) × ReadsRest end by.apart rest ts (by.fault f p) → by.LexRefusal bytes f p
text_fault bytes text rest end f p same u allowed size begins (ts, r) =
    by.LexRefusal.token (subst (λ z. IsUtf8 z) same u) allowed
    (subst (λ z. by.ReadsText (chars z) ts (by.fault f p)) same (begins ts (by.fault f p) (subst (λ z. ReadsRest z by.apart rest ts (by.fault f p)) size r)))

-- one more token, and the gap behind it
pub leads_pushed : (end m n : ℕ) (j k l : Joined) (before mid rest after : List ℕ) (xs : List Lexed) (x : Lexed) {ys : List Lexed} → m ≡ end → n ≡ m → ys ≡ xs ++ x ∷ [] → Leads end j before (map placed_of xs) k mid →
    x.place ≡ place end mid → LeadsToken m k mid (token_of x.token) rest → l ≡ after_token k (token_of x.token) → Skips n rest after → Leads end j before (map placed_of ys) l after
leads_pushed end m n j k l before mid rest after xs x {ys = ys} e f same lead here token joined s =
    let t = after_token k (token_of x.token) in
    let token_here = subst (λ z. LeadsToken z k mid (token_of x.token) rest) e token in
    let placed = subst (λ a. Leads end k mid (token_of x.token at a ∷ []) t rest) (sym here) token_here in
    let both = leads_then end j k t before mid rest (map placed_of xs) (placed_of x ∷ []) lead placed in
    let on = leads_skip end j t before rest after (map placed_of xs ++ placed_of x ∷ []) both (subst (λ z. Skips z rest after) (f ∙ e) s) in
    subst (λ z. Leads end j before (map placed_of ys) z after) (sym joined)
    (subst (λ ts. Leads end j before ts t after) (sym (ap (map placed_of) same ∙ map_push xs x)) on)
