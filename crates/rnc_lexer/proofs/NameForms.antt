-- Names, keywords and names with a prefix.
use Rattle.std.proofs.Common.{◌≡◌, ℕ, Bool, true, false, not, ◌||◌, ◌==◌, List, [], ◌∷◌, ◌++◌, refl, sym, ap, ◌∙◌, subst, inl, inr, append_assoc, append-nil, encode_utf8, encode_utf8_all, chars, nat_eq, Some, None, Option, MatchOption, slice_get, true≢false}
use Rattle.std.specs.List.{list_all}
use Rattle.std.specs.Option.{option_eq}
use Rattle.std.proofs.lemmas.Str.{encodes_same, encodes-append}
use Rattle.std.proofs.lemmas.Bool.{eqb-true}
use Rattle.rng_model.specs.Names.{is_name_start, is_name_char, are_name_chars}
use Rattle.token_laws.specs.Tokens.{Keyword, Token, keyword, ident, cname, ns_name, segment, symbol}
use Rattle.token_laws.specs.Tokens as word
use Rattle.token_laws.specs.Spellings.{keyword_text}
use Rattle.token_laws.specs.Lexing.{EndsRun, Spells, HasNoWord, begins_backslash}
use Rattle.token_laws.proofs.Runs.{both, clash}
use Rattle.token_laws.proofs.Words.{longest_name, longest_cname, longest_ns_name, longest_escaped, no_word}
use Rattle.rnc_lexer.specs.Steps.{TakesRun, TakesWord, Takes}
use Rattle.token_laws.specs.Beginnings.{begins_name, goes_on, begins_escaped, begins_pair}
use Rattle.rnc_lexer.specs.Views.{IsNoKeyword, IsPlain}

keyword_ascii : (k : Keyword) → encode_utf8_all (keyword_text k) ≡ keyword_text k
unfolding lib.Utf8.encode
keyword_ascii word.attribute = refl
keyword_ascii word.default = refl
keyword_ascii word.datatypes = refl
keyword_ascii word.div = refl
keyword_ascii word.element = refl
keyword_ascii word.empty = refl
keyword_ascii word.external = refl
keyword_ascii word.grammar = refl
keyword_ascii word.include = refl
keyword_ascii word.inherit = refl
keyword_ascii word.list = refl
keyword_ascii word.mixed = refl
keyword_ascii word.namespace = refl
keyword_ascii word.not_allowed = refl
keyword_ascii word.parent = refl
keyword_ascii word.start = refl
keyword_ascii word.string = refl
keyword_ascii word.text = refl
keyword_ascii word.token = refl

start_char : (c : ℕ) → is_name_start c ≡ true → is_name_char c ≡ true
unfolding is_name_char
start_char c e = rw e refl

-- where a name begins, the run of name characters is a name
some_name : (cs xs rest : List ℕ) → cs ≡ xs ++ rest → list_all is_name_char xs ≡ true → EndsRun is_name_char rest → begins_name cs ≡ true → are_name_chars xs ≡ true
some_name cs [] [] same a e b = absurd (true≢false (sym (subst (λ z. begins_name z ≡ true) same b)))
some_name cs [] (r ∷ rest) same a e b = clash (start_char r (subst (λ z. begins_name z ≡ true) same b)) e
some_name cs (x ∷ xs) rest same a e b =
    let h : is_name_start x ≡ true = subst (λ z. begins_name z ≡ true) same b in
    let k = (both (is_name_char x) (list_all is_name_char xs) a).1 in
    rw h k

pub is_name : {before text after : List ℕ} (t : TakesRun is_name_char before text after) → begins_name (chars before) ≡ true → are_name_chars t.characters ≡ true
is_name t b = some_name _ t.characters _ t.run.spelled t.run.passes t.run.ends b

plain_word : {before text after : List ℕ} (t : TakesRun is_name_char before text after) (u : Token) → begins_name (chars before) ≡ true → goes_on (chars after) ≡ false → Spells u t.characters → TakesWord before u after
plain_word {after = after} t u b n s = record {
  characters = t.characters;
  bytes = t.bytes ∙ ap (λ z. z ++ after) t.spelled;
  word = record {
    spelled = t.run.spelled;
    spelling = s;
    longest = λ v ys zs same w. longest_name t.characters (chars after) (is_name t b) t.run.ends n v ys zs (sym t.run.spelled ∙ same) w;
  };
}

pub keyword_word : {before text after : List ℕ} (t : TakesRun is_name_char before text after) (k : Keyword) → begins_name (chars before) ≡ true → goes_on (chars after) ≡ false → text ≡ keyword_text k → TakesWord before (keyword k) after
keyword_word t k b n e = plain_word t (keyword k) b n (encodes_same t.characters (keyword_text k) (sym t.spelled ∙ (e ∙ sym (keyword_ascii k))))

pub ident_word : {before text after : List ℕ} (t : TakesRun is_name_char before text after) → begins_name (chars before) ≡ true → goes_on (chars after) ≡ false → IsNoKeyword text → TakesWord before (ident text) after
ident_word {text = text} t b n e = plain_word t (ident text) b n (inl ((t.spelled, is_name t b), λ k f. e k (t.spelled ∙ (ap encode_utf8_all f ∙ keyword_ascii k))))

-- no colon comes next, or nothing that goes on behind it
pub no_colon : (cs : List ℕ) → option_eq nat_eq (slice_get cs 0) (Some 58) ≡ false → goes_on cs ≡ false
no_colon [] e = refl
no_colon (c ∷ []) e = refl
no_colon (c ∷ d ∷ cs) e = rw e refl

pub colon_alone : (cs ds : List ℕ) → cs ≡ 58 ∷ ds → option_eq nat_eq (slice_get ds 0) (Some 42) ≡ false → begins_name ds ≡ false → goes_on cs ≡ false
colon_alone cs [] same e f = subst (λ z. goes_on z ≡ false) (sym same) refl
colon_alone cs (d ∷ ds) same e f = subst (λ z. goes_on z ≡ false) (sym same) (two (is_name_start d) (d == 42) f e)
  where
    two : (a b : Bool) → a ≡ false → b ≡ false → (a || b) ≡ false
    two a b g h = rw g h

joined_bytes : (xs ws after : List ℕ) {before mid rest : List ℕ} → before ≡ encode_utf8_all xs ++ mid → mid ≡ encode_utf8 58 ++ rest → rest ≡ encode_utf8_all ws ++ after →
    before ≡ encode_utf8_all (xs ++ 58 ∷ ws) ++ after
joined_bytes xs ws after a b c =
    (a ∙ ap (λ z. encode_utf8_all xs ++ z) (b ∙ (ap (λ z. encode_utf8 58 ++ z) c ∙ sym (append_assoc (encode_utf8 58) (encode_utf8_all ws) after))))
    ∙ (sym (append_assoc (encode_utf8_all xs) (encode_utf8 58 ++ encode_utf8_all ws) after) ∙ ap (λ z. z ++ after) (sym (encodes-append xs (58 ∷ ws))))

pub cname_word : {before text mid rest other after : List ℕ} (t : TakesRun is_name_char before text mid) → Takes 58 mid true rest → (u : TakesRun is_name_char rest other after) →
    begins_name (chars before) ≡ true → begins_name (chars rest) ≡ true → TakesWord before (cname text other) after
cname_word {before = before} {text = text} {mid = mid} {other = other} {after = after} t c u b d = record {
  characters = t.characters ++ 58 ∷ u.characters;
  bytes = joined_bytes t.characters u.characters after (t.bytes ∙ ap (λ z. z ++ mid) t.spelled) c.0 (u.bytes ∙ ap (λ z. z ++ after) u.spelled);
  word = record {
    spelled = whole;
    spelling = (t.characters, u.characters, refl, (t.spelled, is_name t b), (u.spelled, is_name u d));
    longest = λ v ys zs same w. longest_cname t.characters u.characters (chars after) (is_name t b) (is_name u d) u.run.ends v ys zs (sym whole ∙ same) w;
  };
}
  where
    whole : chars before ≡ (t.characters ++ 58 ∷ u.characters) ++ chars after
    whole = t.run.spelled ∙ (ap (λ z. t.characters ++ z) (c.1 ∙ ap (λ z. 58 ∷ z) u.run.spelled) ∙ sym (append_assoc t.characters (58 ∷ u.characters) (chars after)))

pub ns_name_word : {before text mid rest after : List ℕ} (t : TakesRun is_name_char before text mid) → Takes 58 mid true rest → Takes 42 rest true after →
    begins_name (chars before) ≡ true → TakesWord before (ns_name text) after
ns_name_word {before = before} {text = text} {mid = mid} {after = after} t c u b = record {
  characters = t.characters ++ 58 ∷ 42 ∷ [];
  bytes = joined_bytes t.characters (42 ∷ []) after (t.bytes ∙ ap (λ z. z ++ mid) t.spelled) c.0 (u.0 ∙ ap (λ z. z ++ after) (sym (append-nil (encode_utf8 42))));
  word = record {
    spelled = whole;
    spelling = (t.characters, refl, (t.spelled, is_name t b));
    longest = λ v ys zs same w. longest_ns_name t.characters (chars after) (is_name t b) v ys zs (sym whole ∙ same) w;
  };
}
  where
    whole : chars before ≡ (t.characters ++ 58 ∷ 42 ∷ []) ++ chars after
    whole = t.run.spelled ∙ (ap (λ z. t.characters ++ z) (c.1 ∙ ap (λ z. 58 ∷ z) u.1) ∙ sym (append_assoc t.characters (58 ∷ 42 ∷ []) (chars after)))

not_false : (b : Bool) → false ≡ not b → b ≡ true
not_false true e = refl
not_false false e = absurd (true≢false (sym e))

pub took : (r : Option ℕ) (w : ℕ) (A : Type 0) (P : ℕ → Type 0) → false ≡ not (option_eq nat_eq r (Some w)) → MatchOption r A P → P w
took None w A P e m = absurd (true≢false (sym e))
took (Some x) w A P e m = subst P (eqb-true x w (not_false (x == w) e)) m

pub plain_token : {before text after : List ℕ} (t : TakesRun is_name_char before text after) (u : Token) → begins_name (chars before) ≡ true → goes_on (chars after) ≡ false → IsPlain text u → TakesWord before u after
plain_token t (keyword k) b n e = keyword_word t k b n e
plain_token {before = before} {after = after} t (ident n) b g e = subst (λ z. TakesWord before (ident z) after) (sym e.0) (ident_word t b g e.1)
plain_token t (cname p q) b n e = elim e [ ]
plain_token t (ns_name p) b n e = elim e [ ]
plain_token t (segment p) b n e = elim e [ ]
plain_token t (symbol p) b n e = elim e [ ]

-- a backslash and a name
pub escaped_word : {before mid text after : List ℕ} → Takes 92 before true mid → TakesRun is_name_char mid text after → begins_name (chars mid) ≡ true → TakesWord before (ident text) after
escaped_word {before = before} {after = after} c t d = record {
  characters = 92 ∷ t.characters;
  bytes = c.0 ∙ (ap (λ z. encode_utf8 92 ++ z) (t.bytes ∙ ap (λ z. z ++ after) t.spelled) ∙ sym (append_assoc (encode_utf8 92) (encode_utf8_all t.characters) after));
  word = record {
    spelled = whole;
    spelling = inr (t.characters, refl, (t.spelled, is_name t d));
    longest = λ v ys zs same w. longest_escaped t.characters (chars after) t.run.ends v ys zs (sym whole ∙ same) w;
  };
}
  where
    whole : chars before ≡ 92 ∷ (t.characters ++ chars after)
    whole = c.1 ∙ ap (λ z. 92 ∷ z) t.run.spelled

escaped_false : (cs : List ℕ) → begins_name cs ≡ false → begins_escaped (92 ∷ cs) ≡ false
escaped_false [] e = refl
escaped_false (c ∷ cs) e = e

pair_false : (cs : List ℕ) → begins_pair (92 ∷ cs) ≡ false
pair_false [] = refl
pair_false (c ∷ cs) = refl

pub no_start : is_name_start 92 ≡ false
unfolding is_name_start
no_start = refl

-- a backslash alone
pub no_escaped : (before mid : List ℕ) → Takes 92 before true mid → begins_name (chars mid) ≡ false → HasNoWord (chars before)
no_escaped before mid c e = subst HasNoWord (sym c.1) (no_word (92 ∷ chars mid) no_start (escaped_false (chars mid) e) refl (pair_false (chars mid)))

-- no backslash comes next
pub no_backslash : (cs : List ℕ) → option_eq nat_eq (slice_get cs 0) (Some 92) ≡ false → begins_backslash cs ≡ false
no_backslash [] e = refl
no_backslash (c ∷ cs) e = e
