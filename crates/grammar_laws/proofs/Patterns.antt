-- Patterns and items are read in one way.
use Rattle.std.proofs.Common.{◌≡◌, ℕ, zero-le, le_refl, ◌≤◌, ◌⊎◌, inl, inr, List, [], ◌∷◌, Option, Some, None, refl, sym, ap, ap₂, ◌∙◌, subst, arith}
use Rattle.rng_model.specs.Texts.{Text}
use Rattle.token_laws.specs.Tokens.{Keyword, Symbol, Token, keyword, ident, cname, ns_name, segment, symbol, Placed, ◌at◌, open_brace, close_brace, open_paren, close_paren, open_bracket, close_bracket, equals, bar_equals, ampersand_equals, comma, ampersand, bar, question, star, plus, minus, tilde, follows}
use Rattle.token_laws.specs.Tokens as word
use Rattle.grammar_laws.specs.Trees.{TypeName, built_string, built_token, Parameter, Passed, Method, Class, Pattern, Patterns, Items}
use Rattle.grammar_laws.specs.Grammar.{ReadsLiteral, IsAnyId, IsAnnotationName, IsNoBracket, ReadsFilling, ReadsBlock, ReadsBlocks, ReadsFollow, ReadsUri, ReadsDeclaration, ReadsDeclarations, ReadsParameters, ReadsBraces, ReadsInherit, ReadsClass, IsItemName, IsType, IsConnector, IsPostfix, IsAssign, ReadsPattern, ReadsMembers, ReadsParticle, ReadsPrimary, ReadsBare, ReadsItems, ReadsItem, ReadsInner}
use Rattle.grammar_laws.specs.Grammar as by
use Rattle.grammar_laws.proofs.Ends.{Stops, rank, tilde_rank, bracket_rank, Only, up, class_rank, no_tilde, no_brace, no_inherit, no_follows, rest_same}
use Rattle.grammar_laws.proofs.Leaves.{unique_blocks, unique_follow, before_follow, unique_literal}
use Rattle.grammar_laws.proofs.Declarations.{token_same}
use Rattle.grammar_laws.proofs.Parameters.{place_same, unique_inherit, braces_meaning, unique_braces, IsClosed}

abbrev pub End : ℕ → List Placed → Type 0
End k ts = Stops rank k ts

-- what each sign stands for
abbrev pub type_of : Token → ℕ → TypeName
type_of (cname p n) a = TypeName.prefixed_type p n a
type_of (keyword word.string) a = built_string a
type_of _ a = built_token a

type_is : {t : Token} {a : ℕ} {of : TypeName} → IsType t a of → of ≡ type_of t a
type_is by.IsType.prefixed = refl
type_is by.IsType.string = refl
type_is by.IsType.token = refl

abbrev pub method_of : Symbol → Method
method_of equals = Method.Plain
method_of bar_equals = Method.Choice
method_of _ = Method.Interleave

pub method_is : {s : Symbol} {m : Method} → IsAssign s m → m ≡ method_of s
method_is by.IsAssign.plain = refl
method_is by.IsAssign.choice = refl
method_is by.IsAssign.interleave = refl

abbrev pub join_of : Symbol → Patterns → Pattern
join_of comma = Pattern.group
join_of bar = Pattern.choice
join_of _ = Pattern.interleave

pub join_is : {s : Symbol} {join : Patterns → Pattern} → IsConnector s join → join ≡ join_of s
join_is by.IsConnector.group = refl
join_is by.IsConnector.choice = refl
join_is by.IsConnector.interleave = refl

abbrev pub repeat_of : Symbol → Pattern → Pattern
repeat_of question = Pattern.optional
repeat_of star = Pattern.zero_or_more
repeat_of _ = Pattern.one_or_more

pub repeat_is : {s : Symbol} {repeat : Pattern → Pattern} → IsPostfix s repeat → repeat ≡ repeat_of s
repeat_is by.IsPostfix.optional = refl
repeat_is by.IsPostfix.zero_or_more = refl
repeat_is by.IsPostfix.one_or_more = refl

pub symbol_same : {s t : Symbol} {a b : ℕ} {ts us : List Placed} → symbol s at a ∷ ts ≡ symbol t at b ∷ us → s ≡ t
symbol_same e = cc

-- a bare pattern by its first token
abbrev pub ElementMeaning : (Class → Pattern → ℕ → Pattern) → ℕ → List Placed → List Placed → Pattern → Type 0
ElementMeaning make a ts us p =
    (b : ℕ) × (c : ℕ) × (vs : List Placed) × (n : Class) × (q : Pattern) ×
    ReadsClass ts (symbol open_brace at b ∷ vs) n × ReadsPattern vs (symbol close_brace at c ∷ us) q × (p ≡ make n q a)

abbrev pub BracedMeaning : (Pattern → Pattern) → List Placed → List Placed → Pattern → Type 0
BracedMeaning make ts us p =
    (b : ℕ) × (c : ℕ) × (vs : List Placed) × (q : Pattern) × (ts ≡ symbol open_brace at b ∷ vs) × ReadsPattern vs (symbol close_brace at c ∷ us) q × (p ≡ make q)

abbrev pub GrammarMeaning : List Placed → List Placed → Pattern → Type 0
GrammarMeaning ts us p =
    (b : ℕ) × (c : ℕ) × (vs : List Placed) × (is : Items) × (ts ≡ symbol open_brace at b ∷ vs) × ReadsItems vs (symbol close_brace at c ∷ us) is × (p ≡ Pattern.grammar is)

abbrev pub TypeMeaning : TypeName → List Placed → List Placed → Pattern → Type 0
TypeMeaning of ts us p =
    ((l : Text) × ReadsLiteral ts us l × (p ≡ Pattern.value (Some of) l)) ⊎ ((ps : List Parameter) × ReadsBraces ts us ps × (p ≡ Pattern.data_type of ps))

abbrev pub ExternalMeaning : ℕ → List Placed → List Placed → Pattern → Type 0
ExternalMeaning a ts us p =
    (vs : List Placed) × (l : Text) × (h : Option Passed) × ReadsLiteral ts vs l × ReadsInherit vs us h × (p ≡ Pattern.external l h a)

abbrev pub BareMeaning : List Placed → List Placed → Pattern → Type 0
BareMeaning [] us p = ⊥
BareMeaning (keyword word.element at a ∷ ts) us p = ElementMeaning Pattern.element a ts us p
BareMeaning (keyword word.attribute at a ∷ ts) us p = ElementMeaning Pattern.attribute a ts us p
BareMeaning (keyword word.list at a ∷ ts) us p = BracedMeaning (λ q. Pattern.list q a) ts us p
BareMeaning (keyword word.mixed at a ∷ ts) us p = BracedMeaning Pattern.mixed ts us p
BareMeaning (ident n at a ∷ ts) us p = (us ≡ ts) × (p ≡ Pattern.ref n a)
BareMeaning (keyword word.parent at a ∷ ts) us p = (n : Text) × (b : ℕ) × (ts ≡ ident n at b ∷ us) × (p ≡ Pattern.parent n a)
BareMeaning (keyword word.empty at a ∷ ts) us p = (us ≡ ts) × (p ≡ Pattern.empty)
BareMeaning (keyword word.text at a ∷ ts) us p = (us ≡ ts) × (p ≡ Pattern.any_text)
BareMeaning (keyword word.not_allowed at a ∷ ts) us p = (us ≡ ts) × (p ≡ Pattern.not_allowed)
BareMeaning (segment s at a ∷ ts) us p = (l : Text) × ReadsLiteral (segment s at a ∷ ts) us l × (p ≡ Pattern.value None l)
BareMeaning (cname m n at a ∷ ts) us p = TypeMeaning (TypeName.prefixed_type m n a) ts us p
BareMeaning (keyword word.string at a ∷ ts) us p = TypeMeaning (built_string a) ts us p
BareMeaning (keyword word.token at a ∷ ts) us p = TypeMeaning (built_token a) ts us p
BareMeaning (keyword word.external at a ∷ ts) us p = ExternalMeaning a ts us p
BareMeaning (keyword word.grammar at a ∷ ts) us p = GrammarMeaning ts us p
BareMeaning (symbol open_paren at a ∷ ts) us p = (b : ℕ) × ReadsPattern ts (symbol close_paren at b ∷ us) p
BareMeaning _ us p = ⊥

pub bare_meaning : {ts us : List Placed} {p : Pattern} → ReadsBare ts us p → BareMeaning ts us p
bare_meaning (by.element c q) = (_, _, _, _, _, c, q, refl)
bare_meaning (by.attribute c q) = (_, _, _, _, _, c, q, refl)
bare_meaning (by.list q) = (_, _, _, _, refl, q, refl)
bare_meaning (by.mixed q) = (_, _, _, _, refl, q, refl)
bare_meaning by.ref = (refl, refl)
bare_meaning by.parent = (_, _, refl, refl)
bare_meaning by.empty = (refl, refl)
bare_meaning by.text = (refl, refl)
bare_meaning by.not_allowed = (refl, refl)
bare_meaning (by.ReadsBare.literal by.one) = (_, by.one, refl)
bare_meaning (by.ReadsBare.literal (by.joined r same)) = (_, by.joined r same, refl)
bare_meaning (by.value by.IsType.prefixed l) = inl (_, l, refl)
bare_meaning (by.value by.IsType.string l) = inl (_, l, refl)
bare_meaning (by.value by.IsType.token l) = inl (_, l, refl)
bare_meaning (by.data_type by.IsType.prefixed b) = inr (_, b, refl)
bare_meaning (by.data_type by.IsType.string b) = inr (_, b, refl)
bare_meaning (by.data_type by.IsType.token b) = inr (_, b, refl)
bare_meaning (by.external l h) = (_, _, _, l, h, refl)
bare_meaning (by.grammar is) = (_, _, _, _, refl, is, refl)
bare_meaning (by.ReadsBare.parentheses q) = (_, q)

type_meaning : {t : Token} {a : ℕ} {of : TypeName} → IsType t a of → (ts us : List Placed) (p : Pattern) → BareMeaning (t at a ∷ ts) us p → TypeMeaning of ts us p
type_meaning by.IsType.prefixed ts us p m = m
type_meaning by.IsType.string ts us p m = m
type_meaning by.IsType.token ts us p m = m

pub type_no_bracket : {t : Token} {a : ℕ} {of : TypeName} (ts : List Placed) → IsType t a of → Stops bracket_rank 0 (t at a ∷ ts)
type_no_bracket ts by.IsType.prefixed = zero-le
type_no_bracket ts by.IsType.string = zero-le
type_no_bracket ts by.IsType.token = zero-le

pub bare_no_bracket : {ts us : List Placed} {p : Pattern} → ReadsBare ts us p → Stops bracket_rank 0 ts
bare_no_bracket (by.element c q) = zero-le
bare_no_bracket (by.attribute c q) = zero-le
bare_no_bracket (by.list q) = zero-le
bare_no_bracket (by.mixed q) = zero-le
bare_no_bracket by.ref = zero-le
bare_no_bracket by.parent = zero-le
bare_no_bracket by.empty = zero-le
bare_no_bracket by.text = zero-le
bare_no_bracket by.not_allowed = zero-le
bare_no_bracket (by.ReadsBare.literal by.one) = zero-le
bare_no_bracket (by.ReadsBare.literal (by.joined r same)) = zero-le
bare_no_bracket (by.value {ts = ts} i l) = type_no_bracket ts i
bare_no_bracket (by.data_type {ts = ts} i b) = type_no_bracket ts i
bare_no_bracket (by.external l h) = zero-le
bare_no_bracket (by.grammar is) = zero-le
bare_no_bracket (by.ReadsBare.parentheses q) = zero-le

pub element_only : (make : Class → Pattern → ℕ → Pattern) {a b c : ℕ} {ts us vs : List Placed} {n : Class} {p : Pattern} →
    Only ReadsClass (Stops class_rank 0) ts (symbol open_brace at b ∷ us) n → Only ReadsPattern (End 0) us (symbol close_brace at c ∷ vs) p →
    (us' : List Placed) (p' : Pattern) → ElementMeaning make a ts us' p' → (vs ≡ us') × (make n p a ≡ p')
element_only make one two us' p' (b', c', xs, n', q, r, s, made) =
    let f = one (symbol open_brace at b' ∷ xs) n' r zero-le in
    let g = two (symbol close_brace at c' ∷ us') q (subst (λ z. ReadsPattern z (symbol close_brace at c' ∷ us') q) (sym (rest_same f.0)) s) zero-le in
    (rest_same g.0, rw (f.1, g.1) (sym made))

pub braced_only : (make : Pattern → Pattern) {b c : ℕ} {ts us : List Placed} {p : Pattern} → Only ReadsPattern (End 0) ts (symbol close_brace at c ∷ us) p →
    (us' : List Placed) (p' : Pattern) → BracedMeaning make (symbol open_brace at b ∷ ts) us' p' → (us ≡ us') × (make p ≡ p')
braced_only make one us' p' (b', c', xs, q, begins, s, made) =
    let g = one (symbol close_brace at c' ∷ us') q (subst (λ z. ReadsPattern z (symbol close_brace at c' ∷ us') q) (sym (rest_same begins)) s) zero-le in
    (rest_same g.0, ap make g.1 ∙ sym made)

pub grammar_only : {b c : ℕ} {ts us : List Placed} {is : Items} → Only ReadsItems IsClosed ts (symbol close_brace at c ∷ us) is →
    (us' : List Placed) (p' : Pattern) → GrammarMeaning (symbol open_brace at b ∷ ts) us' p' → (us ≡ us') × (Pattern.grammar is ≡ p')
grammar_only one us' p' (b', c', xs, js, begins, s, made) =
    let g = one (symbol close_brace at c' ∷ us') js (subst (λ z. ReadsItems z (symbol close_brace at c' ∷ us') js) (sym (rest_same begins)) s) tt in
    (rest_same g.0, ap Pattern.grammar g.1 ∙ sym made)

-- a literal begins with no symbol, and is what goes on with a type
literal_symbol : {ts us : List Placed} {l : Text} {s : Symbol} {a : ℕ} {vs : List Placed} → ReadsLiteral ts us l → ts ≡ symbol s at a ∷ vs → ⊥
literal_symbol by.one e = let f = token_same e in cc f
literal_symbol (by.joined r same) e = let f = token_same e in cc f

literal_end : {ts us : List Placed} {l : Text} → ReadsLiteral ts us l → End 3 ts → ⊥
literal_end by.one e = omega arith
literal_end (by.joined r same) e = omega arith

literal_or_braces : {ts us vs : List Placed} {l : Text} {ps : List Parameter} → ReadsLiteral ts us l → ReadsBraces ts vs ps → End 3 vs → ⊥
literal_or_braces {ts = ts} {us = us} {vs = vs} {l = l} {ps = ps} lit br e = go (braces_meaning br)
  where
    go : ((vs ≡ ts) × (ps ≡ [])) ⊎ ((a : ℕ) × (b : ℕ) × (ws : List Placed) × (ts ≡ symbol open_brace at a ∷ ws) × ReadsParameters ws (symbol close_brace at b ∷ vs) ps) → ⊥
    go (inl (x, y)) = literal_end lit (subst (End 3) x e)
    go (inr (a, b, ws, begins, _)) = literal_symbol lit begins

pub literal_only : {ts us : List Placed} {l : Text} → ReadsLiteral ts us l → Only ReadsLiteral (Stops tilde_rank 0) ts us l → Only ReadsBare (End 3) ts us (Pattern.value None l)
literal_only by.one only us' p' d e' =
    let m = bare_meaning d in
    let f = only us' m.0 m.1 (no_tilde us' e') in
    (f.0, ap (Pattern.value None) f.1 ∙ sym m.2)
literal_only (by.joined r same) only us' p' d e' =
    let m = bare_meaning d in
    let f = only us' m.0 m.1 (no_tilde us' e') in
    (f.0, ap (Pattern.value None) f.1 ∙ sym m.2)

pub value_only : {t : Token} {a : ℕ} {of : TypeName} {ts us : List Placed} {l : Text} → IsType t a of → ReadsLiteral ts us l → Only ReadsLiteral (Stops tilde_rank 0) ts us l →
    Only ReadsBare (End 3) (t at a ∷ ts) us (Pattern.value (Some of) l)
value_only {t = t} {a = a} {of = of} {ts = ts} {us = us} {l = l} i lit only us' p' d e' = go (type_meaning i ts us' p' (bare_meaning d))
  where
    go : TypeMeaning of ts us' p' → (us ≡ us') × (Pattern.value (Some of) l ≡ p')
    go (inl (m, r, made)) = let f = only us' m r (no_tilde us' e') in (f.0, ap (Pattern.value (Some of)) f.1 ∙ sym made)
    go (inr (ps, br, made)) = absurd (literal_or_braces lit br e')

pub data_only : {t : Token} {a : ℕ} {of : TypeName} {ts us : List Placed} {ps : List Parameter} → IsType t a of → ReadsBraces ts us ps → End 3 us →
    Only ReadsBare (End 3) (t at a ∷ ts) us (Pattern.data_type of ps)
data_only {t = t} {a = a} {of = of} {ts = ts} {us = us} {ps = ps} i br e us' p' d e' = go (type_meaning i ts us' p' (bare_meaning d))
  where
    go : TypeMeaning of ts us' p' → (us ≡ us') × (Pattern.data_type of ps ≡ p')
    go (inl (m, lit, made)) = absurd (literal_or_braces lit br e)
    go (inr (qs, br', made)) =
        let f = unique_braces br (no_brace us (up rank 3 us e)) us' qs br' (no_brace us' (up rank 3 us' e')) in
        (f.0, ap (Pattern.data_type of) f.1 ∙ sym made)

pub inherit_no_tilde : {us vs : List Placed} {h : Option Passed} → ReadsInherit us vs h → Stops tilde_rank 0 vs → Stops tilde_rank 0 us
inherit_no_tilde by.ReadsInherit.none e = e
inherit_no_tilde (by.ReadsInherit.passed i) e = zero-le

pub external_only : {a : ℕ} {ts us vs : List Placed} {l : Text} {h : Option Passed} → ReadsLiteral ts us l → ReadsInherit us vs h → End 3 vs →
    Only ReadsBare (End 3) (keyword word.external at a ∷ ts) vs (Pattern.external l h a)
external_only {a = a} {ts = ts} {us = us} {vs = vs} {l = l} {h = h} lit inh e us' p' d e' = go (bare_meaning d)
  where
    go : ExternalMeaning a ts us' p' → (vs ≡ us') × (Pattern.external l h a ≡ p')
    go (ws, m, k, lit', inh', made) =
        let f = unique_literal lit (inherit_no_tilde inh (no_tilde vs e)) ws m lit' (inherit_no_tilde inh' (no_tilde us' e')) in
        let g = unique_inherit inh (no_inherit vs e) us' k (subst (λ z. ReadsInherit z us' k) (sym f.0) inh') (no_inherit us' e') in
        (g.0, rw (f.1, g.1) (sym made))

pub ref_only : {n : Text} {a : ℕ} {ts : List Placed} → Only ReadsBare (End 3) (ident n at a ∷ ts) ts (Pattern.ref n a)
ref_only us' p' d e' = let m = bare_meaning d in (sym m.0, sym m.1)

pub parent_only : {n : Text} {a b : ℕ} {ts : List Placed} → Only ReadsBare (End 3) (keyword word.parent at a ∷ ident n at b ∷ ts) ts (Pattern.parent n a)
parent_only {n = n} {a = a} {b = b} {ts = ts} us' p' d e' = go (bare_meaning d)
  where
    name_same : {x y : Text} → ident x ≡ ident y → x ≡ y
    name_same e = cc

    go : (m : Text) × (c : ℕ) × (ident n at b ∷ ts ≡ ident m at c ∷ us') × (p' ≡ Pattern.parent m a) → (ts ≡ us') × (Pattern.parent n a ≡ p')
    go (m, c, begins, made) = (rest_same begins, ap (λ z. Pattern.parent z a) (name_same (token_same begins)) ∙ sym made)

pub empty_only : {a : ℕ} {ts : List Placed} → Only ReadsBare (End 3) (keyword word.empty at a ∷ ts) ts Pattern.empty
empty_only us' p' d e' = let m = bare_meaning d in (sym m.0, sym m.1)

pub text_only : {a : ℕ} {ts : List Placed} → Only ReadsBare (End 3) (keyword word.text at a ∷ ts) ts Pattern.any_text
text_only us' p' d e' = let m = bare_meaning d in (sym m.0, sym m.1)

pub not_allowed_only : {a : ℕ} {ts : List Placed} → Only ReadsBare (End 3) (keyword word.not_allowed at a ∷ ts) ts Pattern.not_allowed
not_allowed_only us' p' d e' = let m = bare_meaning d in (sym m.0, sym m.1)

pub parentheses_only : {a b : ℕ} {ts us : List Placed} {p : Pattern} → Only ReadsPattern (End 0) ts (symbol close_paren at b ∷ us) p →
    Only ReadsBare (End 3) (symbol open_paren at a ∷ ts) us p
parentheses_only only us' p' d e' =
    let m = bare_meaning d in
    let f = only (symbol close_paren at m.0 ∷ us') p' m.1 zero-le in
    (rest_same f.0, f.1)

-- blocks, a bare pattern and what follows
abbrev PlainMeaning : List Placed → List Placed → Pattern → Type 0
PlainMeaning ts us p = (vs : List Placed) × (ws : List Placed) × ReadsBlocks ts vs × ReadsBare vs ws p × ReadsFollow ws us

abbrev ExceptMeaning : List Placed → List Placed → Pattern → Type 0
ExceptMeaning ts us p =
    (t : Token) × (of : TypeName) × (a : ℕ) × (b : ℕ) × (ps : List Parameter) × (vs : List Placed) × (ws : List Placed) × (xs : List Placed) × (ys : List Placed) × (q : Pattern) ×
    ReadsBlocks ts (t at a ∷ vs) × IsType t a of × ReadsBraces vs (symbol minus at b ∷ ws) ps × ReadsBlocks ws xs × ReadsBare xs ys q × ReadsFollow ys us × (p ≡ Pattern.data_except of ps q)

primary_meaning : {ts us : List Placed} {p : Pattern} → ReadsPrimary ts us p → PlainMeaning ts us p ⊎ ExceptMeaning ts us p
primary_meaning (by.primary b r f) = inl (_, _, b, r, f)
primary_meaning (by.ReadsPrimary.except b i br bl r f) = inr (_, _, _, _, _, _, _, _, _, _, b, i, br, bl, r, f, refl)

pub inner_end : {ts us : List Placed} → ReadsFollow ts us → End 2 us → End 3 ts
inner_end {us = us} f e = before_follow rank (le_refl 3) f (up rank 2 us e)

apart : {of : TypeName} {ts us vs : List Placed} {p : Pattern} {ps : List Parameter} {b : ℕ} → TypeMeaning of ts us p → ReadsBraces ts (symbol minus at b ∷ vs) ps → End 3 us → ⊥
apart {of = of} {ts = ts} {us = us} {vs = vs} {p = p} {ps = ps} {b = b} m br e = go m
  where
    first : {l : Text} → ReadsLiteral ts us l → ((symbol minus at b ∷ vs ≡ ts) × (ps ≡ [])) ⊎ ((a : ℕ) × (c : ℕ) × (ws : List Placed) × (ts ≡ symbol open_brace at a ∷ ws) × ReadsParameters ws (symbol close_brace at c ∷ symbol minus at b ∷ vs) ps) → ⊥
    first lit (inl (x, y)) = literal_symbol lit (sym x)
    first lit (inr (a, c, ws, begins, _)) = literal_symbol lit begins

    go : TypeMeaning of ts us p → ⊥
    go (inl (l, lit, made)) = first lit (braces_meaning br)
    go (inr (qs, br', made)) =
        let f = unique_braces br' (no_brace us (up rank 3 us e)) (symbol minus at b ∷ vs) ps br zero-le in
        let h : 4 ≤ 3 = subst (End 3) f.0 e in
        omega arith

pub one_primary : {ts us vs ws : List Placed} {p : Pattern} → ReadsBlocks ts us → ReadsBare us vs p → Only ReadsBare (End 3) us vs p → ReadsFollow vs ws → End 2 ws →
    Only ReadsPrimary (End 2) ts ws p
one_primary {ts = ts} {us = us} {vs = vs} {ws = ws} {p = p} bl bare only f e us' p' d e' = go (primary_meaning d)
  where
    go : PlainMeaning ts us' p' ⊎ ExceptMeaning ts us' p' → (ws ≡ us') × (p ≡ p')
    go (inl (xs, ys, bl', r, f')) =
        let same = unique_blocks bl (bare_no_bracket bare) xs bl' (bare_no_bracket r) in
        let g = only ys p' (subst (λ z. ReadsBare z ys p') (sym same) r) (inner_end f' e') in
        (unique_follow f (no_follows ws e) us' (subst (λ z. ReadsFollow z us') (sym g.0) f') (no_follows us' e'), g.1)
    go (inr (t, of, a, b, ps, ks, ls, xs, ys, q, bl', i, br, bl'', r, f', made)) =
        let same = unique_blocks bl (bare_no_bracket bare) (t at a ∷ ks) bl' (type_no_bracket ks i) in
        absurd (apart (type_meaning i ks vs p (bare_meaning (subst (λ z. ReadsBare z vs p) same bare))) br (inner_end f e))

pub one_except : {t : Token} {of : TypeName} {a b : ℕ} {ps : List Parameter} {ts us vs ws xs ys : List Placed} {p : Pattern} →
    ReadsBlocks ts (t at a ∷ us) → IsType t a of → ReadsBraces us (symbol minus at b ∷ vs) ps → ReadsBlocks vs ws → ReadsBare ws xs p → Only ReadsBare (End 3) ws xs p → ReadsFollow xs ys → End 2 ys →
    Only ReadsPrimary (End 2) ts ys (Pattern.data_except of ps p)
one_except {t = t} {of = of} {a = a} {b = b} {ps = ps} {ts = ts} {us = us} {vs = vs} {ws = ws} {xs = xs} {ys = ys} {p = p} bl i br bl₂ bare only f e us' p' d e' = go (primary_meaning d)
  where
    go : PlainMeaning ts us' p' ⊎ ExceptMeaning ts us' p' → (ys ≡ us') × (Pattern.data_except of ps p ≡ p')
    go (inl (ks, ls, bl', r, f')) =
        let same = unique_blocks bl (type_no_bracket us i) ks bl' (bare_no_bracket r) in
        absurd (apart (type_meaning i us ls p' (bare_meaning (subst (λ z. ReadsBare z ls p') (sym same) r))) br (inner_end f' e'))
    go (inr (t', of', a', b', ps', ks, ls, ms, ns, q, bl', i', br', bl₂', r, f', made)) =
        let same = unique_blocks bl (type_no_bracket us i) (t' at a' ∷ ks) bl' (type_no_bracket ks i') in
        let token : t ≡ t' = token_same same in
        let place : a ≡ a' = place_same same in
        let type : of ≡ of' = type_is i ∙ ap₂ type_of token place ∙ sym (type_is i') in
        let g = unique_braces br zero-le (symbol minus at b' ∷ ls) ps' (subst (λ z. ReadsBraces z (symbol minus at b' ∷ ls) ps') (sym (rest_same same)) br') zero-le in
        let k = unique_blocks bl₂ (bare_no_bracket bare) ms (subst (λ z. ReadsBlocks z ms) (sym (rest_same g.0)) bl₂') (bare_no_bracket r) in
        let h = only ns q (subst (λ z. ReadsBare z ns q) (sym k) r) (inner_end f' e') in
        (unique_follow f (no_follows ys e) us' (subst (λ z. ReadsFollow z us') (sym h.0) f') (no_follows us' e'), rw (type, g.1, h.1) (sym made))
