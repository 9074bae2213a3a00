-- Runs of characters, and words by their longest spelling: each is a function of the characters.
use Rattle.std.proofs.Common.{◌≡◌, ◌≢◌, ℕ, ◌≤◌, Bool, true, false, ◌&&◌, ◌==◌, inl, inr, List, [], ◌∷◌, ◌++◌, Option, Some, None, length, refl, sym, ap, ap₂, ◌∙◌, subst, arith, true≢false, if◌then◌else◌, encode_utf8_all, bytes_eq, append-nil}
use Rattle.std.specs.List.{list_all}
use Rattle.std.proofs.lemmas.Slice.Eq.{bytes_eq-Decides}
use Rattle.rng_model.specs.Names.{is_name_start, is_name_char, are_name_chars}
use Rattle.token_laws.specs.Tokens.{Keyword, Symbol, Token, keyword, ident, cname, ns_name, segment, symbol}
use Rattle.token_laws.specs.Tokens as word
use Rattle.token_laws.specs.Spellings.{keyword_text, symbol_text}
use Rattle.token_laws.specs.Beginnings.{begins_name}
use Rattle.token_laws.specs.Lexing.{EndsRun, IsRun, Spells, IsWord}

pub both : (a b : Bool) → (a && b) ≡ true → (a ≡ true) × (b ≡ true)
both true b e = (refl, e)
both false b e = absurd (true≢false (sym e))

pub clash : {A : Type 0} {b : Bool} → b ≡ true → b ≡ false → A
clash e f = absurd (true≢false (sym e ∙ f))

pub head_same : {x y : ℕ} {xs ys : List ℕ} → x ∷ xs ≡ y ∷ ys → x ≡ y
head_same e = cc

pub tail_same : {x y : ℕ} {xs ys : List ℕ} → x ∷ xs ≡ y ∷ ys → xs ≡ ys
tail_same e = cc

-- a run and its rest are one
pub one_run : (p : ℕ → Bool) (xs rest ys other : List ℕ) → list_all p xs ≡ true → EndsRun p rest → list_all p ys ≡ true → EndsRun p other →
    xs ++ rest ≡ ys ++ other → (xs ≡ ys) × (rest ≡ other)
one_run p [] rest [] other a e b f same = (refl, same)
one_run p [] rest (y ∷ ys) other a e b f same =
    let ended : p y ≡ false = subst (EndsRun p) same e in
    clash (both (p y) (list_all p ys) b).0 ended
one_run p (x ∷ xs) rest [] other a e b f same =
    let ended : p x ≡ false = subst (EndsRun p) (sym same) f in
    clash (both (p x) (list_all p xs) a).0 ended
one_run p (x ∷ xs) rest (y ∷ ys) other a e b f same =
    let r = one_run p xs rest ys other (both (p x) (list_all p xs) a).1 e (both (p y) (list_all p ys) b).1 f (tail_same same) in
    (ap₂ (λ u v. u ∷ v) (head_same same) r.0, r.1)

pub run_same : {p : ℕ → Bool} {cs xs rest ys other : List ℕ} → IsRun p cs xs rest → IsRun p cs ys other → (xs ≡ ys) × (rest ≡ other)
run_same {p = p} {xs = xs} {rest = rest} {ys = ys} {other = other} r s = one_run p xs rest ys other r.passes r.ends s.passes s.ends (sym r.spelled ∙ s.spelled)

-- The token of a spelling as a function.

start_char : (c : ℕ) → is_name_start c ≡ true → is_name_char c ≡ true
unfolding is_name_char
start_char c e = rw e refl

pub names_pass : (xs : List ℕ) → are_name_chars xs ≡ true → list_all is_name_char xs ≡ true
names_pass [] e = absurd (true≢false (sym e))
names_pass (c ∷ cs) e =
    let h = both (is_name_start c) (list_all is_name_char cs) e in
    rw (start_char c h.0, h.1) refl

-- the run of name characters, and what stands behind it
front : List ℕ → List ℕ
front [] = []
front (c ∷ cs) = if is_name_char c then c ∷ front cs else []

back : List ℕ → List ℕ
back [] = []
back (c ∷ cs) = if is_name_char c then back cs else c ∷ cs

front_is : (xs rest : List ℕ) → list_all is_name_char xs ≡ true → EndsRun is_name_char rest → (front (xs ++ rest) ≡ xs) × (back (xs ++ rest) ≡ rest)
unfolding front back
front_is [] [] a e = (refl, refl)
front_is [] (c ∷ cs) a e = (rw e refl, rw e refl)
front_is (x ∷ xs) rest a e =
    let h = both (is_name_char x) (list_all is_name_char xs) a in
    let r = front_is xs rest h.1 e in
    (rw (h.0, r.0) refl, rw h.0 r.1)

keywords : List Keyword
keywords =
    word.attribute ∷ word.default ∷ word.datatypes ∷ word.div ∷ word.element ∷ word.empty ∷ word.external ∷ word.grammar ∷ word.include ∷ word.inherit ∷
    word.list ∷ word.mixed ∷ word.namespace ∷ word.not_allowed ∷ word.parent ∷ word.start ∷ word.string ∷ word.text ∷ word.token ∷ []

keyword_in : List Keyword → List ℕ → Option Keyword
keyword_in [] xs = None
keyword_in (k ∷ ks) xs = if bytes_eq xs (keyword_text k) then Some k else keyword_in ks xs

found : (k : Keyword) → keyword_in keywords (keyword_text k) ≡ Some k
unfolding keyword_in keywords
found word.attribute = refl
found word.default = refl
found word.datatypes = refl
found word.div = refl
found word.element = refl
found word.empty = refl
found word.external = refl
found word.grammar = refl
found word.include = refl
found word.inherit = refl
found word.list = refl
found word.mixed = refl
found word.namespace = refl
found word.not_allowed = refl
found word.parent = refl
found word.start = refl
found word.string = refl
found word.text = refl
found word.token = refl

differs : (xs ys : List ℕ) → xs ≢ ys → bytes_eq xs ys ≡ false
differs xs ys n = go (bytes_eq xs ys) refl
  where
    go : (b : Bool) → bytes_eq xs ys ≡ b → bytes_eq xs ys ≡ false
    go true e = absurd (n ((bytes_eq-Decides xs ys).0 e))
    go false e = e

not_found : (ks : List Keyword) (xs : List ℕ) → ((k : Keyword) → xs ≢ keyword_text k) → keyword_in ks xs ≡ None
unfolding keyword_in
not_found [] xs n = refl
not_found (k ∷ ks) xs n = rw (differs xs (keyword_text k) (n k)) (not_found ks xs n)

symbols : List Symbol
symbols =
    word.open_brace ∷ word.close_brace ∷ word.open_paren ∷ word.close_paren ∷ word.open_bracket ∷ word.close_bracket ∷ word.equals ∷ word.bar_equals ∷
    word.ampersand_equals ∷ word.comma ∷ word.ampersand ∷ word.bar ∷ word.question ∷ word.star ∷ word.plus ∷ word.minus ∷ word.tilde ∷ word.follows ∷ []

symbol_in : List Symbol → List ℕ → Symbol
symbol_in [] xs = word.tilde
symbol_in (k ∷ ks) xs = if bytes_eq xs (symbol_text k) then k else symbol_in ks xs

-- a run of name characters and what stands behind it
single : Option Keyword → List ℕ → Token
single (Some k) xs = keyword k
single None xs = ident (encode_utf8_all xs)

named : List ℕ → List ℕ → Token
named ys [] = single (keyword_in keywords ys) ys
named ys (c ∷ zs) = if bytes_eq zs (42 ∷ []) then ns_name (encode_utf8_all ys) else cname (encode_utf8_all ys) (encode_utf8_all zs)

unnamed : List ℕ → Token
unnamed [] = symbol word.tilde
unnamed (c ∷ cs) = if c == 92 then ident (encode_utf8_all cs) else symbol (symbol_in symbols (c ∷ cs))

token_of : List ℕ → Token
token_of xs = if begins_name xs then named (front xs) (back xs) else unnamed xs

keyword_token : (k : Keyword) → token_of (keyword_text k) ≡ keyword k
unfolding token_of named unnamed single front back keyword_in keywords is_name_start is_name_char
keyword_token word.attribute = refl
keyword_token word.default = refl
keyword_token word.datatypes = refl
keyword_token word.div = refl
keyword_token word.element = refl
keyword_token word.empty = refl
keyword_token word.external = refl
keyword_token word.grammar = refl
keyword_token word.include = refl
keyword_token word.inherit = refl
keyword_token word.list = refl
keyword_token word.mixed = refl
keyword_token word.namespace = refl
keyword_token word.not_allowed = refl
keyword_token word.parent = refl
keyword_token word.start = refl
keyword_token word.string = refl
keyword_token word.text = refl
keyword_token word.token = refl

symbol_token : (s : Symbol) → token_of (symbol_text s) ≡ symbol s
unfolding token_of named unnamed symbol_in symbols is_name_start
symbol_token word.open_brace = refl
symbol_token word.close_brace = refl
symbol_token word.open_paren = refl
symbol_token word.close_paren = refl
symbol_token word.open_bracket = refl
symbol_token word.close_bracket = refl
symbol_token word.equals = refl
symbol_token word.bar_equals = refl
symbol_token word.ampersand_equals = refl
symbol_token word.comma = refl
symbol_token word.ampersand = refl
symbol_token word.bar = refl
symbol_token word.question = refl
symbol_token word.star = refl
symbol_token word.plus = refl
symbol_token word.minus = refl
symbol_token word.tilde = refl
symbol_token word.follows = refl

escaped_token : (ys : List ℕ) → token_of (92 ∷ ys) ≡ ident (encode_utf8_all ys)
unfolding token_of unnamed is_name_start
escaped_token ys = refl

pub name_begins : (ys tail : List ℕ) → are_name_chars ys ≡ true → begins_name (ys ++ tail) ≡ true
name_begins [] tail e = absurd (true≢false (sym e))
name_begins (c ∷ cs) tail e = (both (is_name_start c) (list_all is_name_char cs) e).0

-- a name and what stands behind it
named_token : (ys tail : List ℕ) → are_name_chars ys ≡ true → EndsRun is_name_char tail → token_of (ys ++ tail) ≡ named ys tail
unfolding token_of
named_token ys tail e f =
    let r = front_is ys tail (names_pass ys e) f in
    rw (name_begins ys tail e, r.0, r.1) refl

single_token : (ys : List ℕ) → are_name_chars ys ≡ true → ((k : Keyword) → ys ≢ keyword_text k) → token_of ys ≡ ident (encode_utf8_all ys)
unfolding named single
single_token ys e n =
    let r : token_of ys ≡ named ys [] = subst (λ z. token_of z ≡ named ys []) (append-nil ys) (named_token ys [] e tt) in
    r ∙ rw (not_found keywords ys n) refl

pub colon_ends : is_name_char 58 ≡ false
unfolding is_name_char is_name_start
colon_ends = refl

pub no_star : is_name_start 42 ≡ false
unfolding is_name_start
no_star = refl

star_alone : (zs : List ℕ) → are_name_chars zs ≡ true → zs ≢ 42 ∷ []
star_alone zs e same =
    let h : are_name_chars (42 ∷ []) ≡ true = subst (λ z. are_name_chars z ≡ true) same e in
    clash (both (is_name_start 42) true h).0 no_star

cname_token : (ys zs : List ℕ) → are_name_chars ys ≡ true → are_name_chars zs ≡ true → token_of (ys ++ 58 ∷ zs) ≡ cname (encode_utf8_all ys) (encode_utf8_all zs)
unfolding named
cname_token ys zs e f = named_token ys (58 ∷ zs) e colon_ends ∙ rw (differs zs (42 ∷ []) (star_alone zs f)) refl

ns_name_token : (ys : List ℕ) → are_name_chars ys ≡ true → token_of (ys ++ 58 ∷ 42 ∷ []) ≡ ns_name (encode_utf8_all ys)
unfolding named
ns_name_token ys e = named_token ys (58 ∷ 42 ∷ []) e colon_ends

-- the token is a function of its spelling
token_is : (t : Token) (xs : List ℕ) → Spells t xs → token_of xs ≡ t
token_is (keyword k) xs e = ap token_of e ∙ keyword_token k
token_is (ident n) xs (inl (e, m)) = single_token xs e.1 m ∙ ap ident (sym e.0)
token_is (ident n) xs (inr (ys, e, m)) = ap token_of e ∙ (escaped_token ys ∙ ap ident (sym m.0))
token_is (cname p n) xs (ys, zs, e, f, g) = ap token_of e ∙ (cname_token ys zs f.1 g.1 ∙ ap₂ cname (sym f.0) (sym g.0))
token_is (ns_name p) xs (ys, e, f) = ap token_of e ∙ (ns_name_token ys f.1 ∙ ap ns_name (sym f.0))
token_is (segment s) xs e = elim e [ ]
token_is (symbol s) xs e = ap token_of e ∙ symbol_token s

-- fronts of one length are the same
pub same_front : (xs rest ys other : List ℕ) → xs ++ rest ≡ ys ++ other → length xs ≡ length ys → (xs ≡ ys) × (rest ≡ other)
same_front [] rest [] other e n = (refl, e)
same_front [] rest (y ∷ ys) other e n = absurd (omega arith)
same_front (x ∷ xs) rest [] other e n = absurd (omega arith)
same_front (x ∷ xs) rest (y ∷ ys) other e n =
    let m : length xs ≡ length ys = omega arith in
    let r = same_front xs rest ys other (tail_same e) m in
    (ap₂ (λ u v. u ∷ v) (head_same e) r.0, r.1)

-- a place has one word
pub word_same : {cs xs rest ys other : List ℕ} {t u : Token} → IsWord cs t xs rest → IsWord cs u ys other → (t ≡ u) × (xs ≡ ys) × (rest ≡ other)
word_same {xs = xs} {rest = rest} {ys = ys} {other = other} {t = t} {u = u} v w =
    let short : length ys ≤ length xs = v.longest u ys other w.spelled w.spelling in
    let long : length xs ≤ length ys = w.longest t xs rest v.spelled v.spelling in
    let even : length xs ≡ length ys = omega arith in
    let r = same_front xs rest ys other (sym v.spelled ∙ w.spelled) even in
    (sym (token_is t xs v.spelling) ∙ (ap token_of r.0 ∙ token_is u ys w.spelling), r.0, r.1)

pub keyword_names : (k : Keyword) → are_name_chars (keyword_text k) ≡ true
unfolding is_name_start is_name_char
keyword_names word.attribute = refl
keyword_names word.default = refl
keyword_names word.datatypes = refl
keyword_names word.div = refl
keyword_names word.element = refl
keyword_names word.empty = refl
keyword_names word.external = refl
keyword_names word.grammar = refl
keyword_names word.include = refl
keyword_names word.inherit = refl
keyword_names word.list = refl
keyword_names word.mixed = refl
keyword_names word.namespace = refl
keyword_names word.not_allowed = refl
keyword_names word.parent = refl
keyword_names word.start = refl
keyword_names word.string = refl
keyword_names word.text = refl
keyword_names word.token = refl
