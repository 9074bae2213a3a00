-- Parameters and `inherit` are read in one way.
use Rattle.std.proofs.Common.{◌≡◌, ℕ, zero-le, ◌≤◌, ◌⊎◌, inl, inr, List, [], ◌∷◌, Option, Some, None, refl, sym, subst, arith}
use Rattle.std.specs.Prelude.{⊤}
use Rattle.rng_model.specs.Texts.{Text}
use Rattle.token_laws.specs.Tokens.{Keyword, Symbol, Token, keyword, ident, cname, ns_name, segment, symbol, Placed, ◌at◌, open_brace, close_brace, open_paren, close_paren, open_bracket, close_bracket, equals, bar_equals, ampersand_equals, comma, ampersand, bar, question, star, plus, minus, tilde, follows}
use Rattle.token_laws.specs.Tokens as word
use Rattle.grammar_laws.specs.Trees.{Parameter, Passed}
use Rattle.grammar_laws.specs.Grammar.{ReadsLiteral, IsAnyId, IsAnnotationName, IsNoBracket, ReadsFilling, ReadsBlock, ReadsBlocks, ReadsFollow, ReadsUri, ReadsDeclaration, ReadsDeclarations, ReadsParameters, ReadsBraces, ReadsInherit}
use Rattle.grammar_laws.specs.Grammar as by
use Rattle.grammar_laws.proofs.Ends.{Stops, tilde_rank, bracket_rank, brace_rank, inherit_rank, Only, rest_same}
use Rattle.grammar_laws.proofs.Leaves.{unique_literal, unique_blocks}
use Rattle.grammar_laws.proofs.Declarations.{token_same, id_same}

pub place_same : {t u : Token} {a b : ℕ} {ts us : List Placed} → t at a ∷ ts ≡ u at b ∷ us → a ≡ b
place_same e = cc

-- inherit = prefix
abbrev InheritMeaning : List Placed → List Placed → Option Passed → Type 0
InheritMeaning ts us h =
    ((us ≡ ts) × (h ≡ None)) ⊎ ((t : Token) × (p : Text) × (a : ℕ) × (b : ℕ) × (c : ℕ) ×
    (ts ≡ keyword word.inherit at a ∷ symbol equals at b ∷ t at c ∷ us) × IsAnyId t p × (h ≡ Some (record { prefix = p; place = a })))

inherit_meaning : {ts us : List Placed} {h : Option Passed} → ReadsInherit ts us h → InheritMeaning ts us h
inherit_meaning by.ReadsInherit.none = inl (refl, refl)
inherit_meaning (by.ReadsInherit.passed i) = inr (_, _, _, _, _, refl, i, refl)

no_passed : {ts : List Placed} → Stops inherit_rank 0 ts → Only ReadsInherit (Stops inherit_rank 0) ts ts None
no_passed {ts = ts} e us' h' r e' = go (inherit_meaning r)
  where
    go : InheritMeaning ts us' h' → (ts ≡ us') × (None ≡ h')
    go (inl (x, y)) = (sym x, sym y)
    go (inr (t, p, a, b, c, begins, _, _)) =
        let h : 1 ≤ 0 = subst (Stops inherit_rank 0) begins e in
        absurd (omega arith)

one_passed : {t : Token} {p : Text} {a b c : ℕ} {ts : List Placed} → IsAnyId t p →
    Only ReadsInherit (Stops inherit_rank 0) (keyword word.inherit at a ∷ symbol equals at b ∷ t at c ∷ ts) ts (Some (record { prefix = p; place = a }))
one_passed {t = t} {p = p} {a = a} {b = b} {c = c} {ts = ts} i us' h' r e' = go (inherit_meaning r)
  where
    go : InheritMeaning (keyword word.inherit at a ∷ symbol equals at b ∷ t at c ∷ ts) us' h' → (ts ≡ us') × (Some (record { prefix = p; place = a }) ≡ h')
    go (inl (x, y)) =
        let h : 1 ≤ 0 = subst (Stops inherit_rank 0) x e' in
        absurd (omega arith)
    go (inr (t', p', a', b', c', begins, i', made)) =
        let same : p ≡ p' = id_same (token_same (rest_same (rest_same begins))) i i' in
        let place : a ≡ a' = place_same begins in
        (rest_same (rest_same (rest_same begins)), rw (same, place) (sym made))

pub unique_inherit : {ts us : List Placed} {h : Option Passed} → ReadsInherit ts us h → Stops inherit_rank 0 us → Only ReadsInherit (Stops inherit_rank 0) ts us h
unique_inherit by.ReadsInherit.none e = no_passed e
unique_inherit (by.ReadsInherit.passed i) e = one_passed i

-- a name is no bracket
pub id_no_bracket : (t : Token) (a : ℕ) (ts : List Placed) (n : Text) → IsAnyId t n → Stops bracket_rank 0 (t at a ∷ ts)
id_no_bracket (keyword k) a ts n i = zero-le
id_no_bracket (ident m) a ts n i = zero-le
id_no_bracket (cname p m) a ts n i = zero-le
id_no_bracket (ns_name p) a ts n i = zero-le
id_no_bracket (segment s) a ts n i = zero-le
id_no_bracket (symbol s) a ts n i = elim i [ ]

-- parameters end before a closing brace
abbrev pub IsClosed : List Placed → Type 0
IsClosed [] = ⊤
IsClosed (symbol close_brace at a ∷ ts) = ⊤
IsClosed _ = ⊥

closed_no_bracket : (ts : List Placed) → IsClosed ts → Stops bracket_rank 0 ts
closed_no_bracket [] e = tt
closed_no_bracket (symbol close_brace at a ∷ ts) e = zero-le
closed_no_bracket (symbol open_bracket at a ∷ ts) e = elim e [ ]
closed_no_bracket (t at a ∷ ts) e = zero-le

closed_no_tilde : (ts : List Placed) → IsClosed ts → Stops tilde_rank 0 ts
closed_no_tilde [] e = tt
closed_no_tilde (symbol close_brace at a ∷ ts) e = zero-le
closed_no_tilde (symbol tilde at a ∷ ts) e = elim e [ ]
closed_no_tilde (t at a ∷ ts) e = zero-le

id_not_closed : (t : Token) (a : ℕ) (ts : List Placed) (n : Text) → IsAnyId t n → IsClosed (t at a ∷ ts) → ⊥
id_not_closed (keyword k) a ts n i e = e
id_not_closed (ident m) a ts n i e = e
id_not_closed (cname p m) a ts n i e = e
id_not_closed (ns_name p) a ts n i e = e
id_not_closed (segment s) a ts n i e = e
id_not_closed (symbol s) a ts n i e = i

-- blocks and a name don't begin with a closing brace
block_not_closed : {ts us : List Placed} → ReadsBlock ts us → IsClosed ts → ⊥
block_not_closed (by.block f) e = e

pub blocks_not_closed : {ts us : List Placed} → ReadsBlocks ts us → (IsClosed us → ⊥) → IsClosed ts → ⊥
blocks_not_closed by.ReadsBlocks.none f e = f e
blocks_not_closed (by.ReadsBlocks.more b r) f e = block_not_closed b e

block_no_tilde : {ts us : List Placed} → ReadsBlock ts us → Stops tilde_rank 0 ts
block_no_tilde (by.block f) = zero-le

blocks_no_tilde : {ts us : List Placed} → ReadsBlocks ts us → Stops tilde_rank 0 us → Stops tilde_rank 0 ts
blocks_no_tilde by.ReadsBlocks.none e = e
blocks_no_tilde (by.ReadsBlocks.more b r) e = block_no_tilde b

id_no_tilde : (t : Token) (a : ℕ) (ts : List Placed) (n : Text) → IsAnyId t n → Stops tilde_rank 0 (t at a ∷ ts)
id_no_tilde (keyword k) a ts n i = zero-le
id_no_tilde (ident m) a ts n i = zero-le
id_no_tilde (cname p m) a ts n i = zero-le
id_no_tilde (ns_name p) a ts n i = zero-le
id_no_tilde (segment s) a ts n i = zero-le
id_no_tilde (symbol s) a ts n i = elim i [ ]

pub parameters_no_tilde : {ts us : List Placed} {ps : List Parameter} → ReadsParameters ts us ps → IsClosed us → Stops tilde_rank 0 ts
parameters_no_tilde (by.ReadsParameters.none {ts = ts}) e = closed_no_tilde ts e
parameters_no_tilde (by.ReadsParameters.more {t = t} {n = n} {a = a} {b = c} {us = us} b i l r) e = blocks_no_tilde b (id_no_tilde t a (symbol equals at c ∷ us) n i)

abbrev ParametersMeaning : List Placed → List Placed → List Parameter → Type 0
ParametersMeaning ts us ps =
    ((us ≡ ts) × (ps ≡ [])) ⊎ ((t : Token) × (n : Text) × (l : Text) × (a : ℕ) × (b : ℕ) × (vs : List Placed) × (ws : List Placed) × (qs : List Parameter) ×
    ReadsBlocks ts (t at a ∷ symbol equals at b ∷ vs) × IsAnyId t n × ReadsLiteral vs ws l × ReadsParameters ws us qs × (ps ≡ record { name = n; literal = l; place = a } ∷ qs))

parameters_meaning : {ts us : List Placed} {ps : List Parameter} → ReadsParameters ts us ps → ParametersMeaning ts us ps
parameters_meaning by.ReadsParameters.none = inl (refl, refl)
parameters_meaning (by.ReadsParameters.more b i l r) = inr (_, _, _, _, _, _, _, _, b, i, l, r, refl)

no_parameter : {ts : List Placed} → IsClosed ts → Only ReadsParameters IsClosed ts ts []
no_parameter {ts = ts} e us' ps' r e' = go (parameters_meaning r)
  where
    go : ParametersMeaning ts us' ps' → (ts ≡ us') × ([] ≡ ps')
    go (inl (x, y)) = (sym x, sym y)
    go (inr (t, n, l, a, b, vs, ws, qs, bl, i, _, _, _)) = absurd (blocks_not_closed bl (id_not_closed t a (symbol equals at b ∷ vs) n i) e)

more_parameters : {t : Token} {n l : Text} {a b : ℕ} {ts us vs ws : List Placed} {ps : List Parameter} →
    ReadsBlocks ts (t at a ∷ symbol equals at b ∷ us) → IsAnyId t n → Only ReadsLiteral (Stops tilde_rank 0) us vs l → Only ReadsParameters IsClosed vs ws ps →
    Only ReadsParameters IsClosed ts ws (record { name = n; literal = l; place = a } ∷ ps)
more_parameters {t = t} {n = n} {l = l} {a = a} {b = b} {ts = ts} {us = us} {vs = vs} {ws = ws} {ps = ps} bl i one only us' ps' r e' = go (parameters_meaning r)
  where
    go : ParametersMeaning ts us' ps' → (ws ≡ us') × (record { name = n; literal = l; place = a } ∷ ps ≡ ps')
    go (inl (x, y)) = absurd (blocks_not_closed bl (id_not_closed t a (symbol equals at b ∷ us) n i) (subst IsClosed x e'))
    go (inr (t', n', l', a', b', xs, ys, qs, bl', i', lit', rest', made)) =
        let begins = unique_blocks bl (id_no_bracket t a (symbol equals at b ∷ us) n i) (t' at a' ∷ symbol equals at b' ∷ xs) bl' (id_no_bracket t' a' (symbol equals at b' ∷ xs) n' i') in
        let f = one ys l' (subst (λ z. ReadsLiteral z ys l') (sym (rest_same (rest_same begins))) lit') (parameters_no_tilde rest' e') in
        let g = only us' qs (subst (λ z. ReadsParameters z us' qs) (sym f.0) rest') e' in
        let name : n ≡ n' = id_same (token_same begins) i i' in
        let place : a ≡ a' = place_same begins in
        let literal : l ≡ l' = f.1 in
        let tail : ps ≡ qs = g.1 in
        (g.0, rw (name, place, literal, tail) (sym made))

pub unique_parameters : {ts us : List Placed} {ps : List Parameter} → ReadsParameters ts us ps → IsClosed us → Only ReadsParameters IsClosed ts us ps
unique_parameters by.ReadsParameters.none e = no_parameter e
unique_parameters (by.ReadsParameters.more b i l r) e = more_parameters b i (unique_literal l (parameters_no_tilde r e)) (unique_parameters r e)

-- braces around parameters
abbrev BracesMeaning : List Placed → List Placed → List Parameter → Type 0
BracesMeaning ts us ps =
    ((us ≡ ts) × (ps ≡ [])) ⊎ ((a : ℕ) × (b : ℕ) × (vs : List Placed) × (ts ≡ symbol open_brace at a ∷ vs) × ReadsParameters vs (symbol close_brace at b ∷ us) ps)

pub braces_meaning : {ts us : List Placed} {ps : List Parameter} → ReadsBraces ts us ps → BracesMeaning ts us ps
braces_meaning by.ReadsBraces.none = inl (refl, refl)
braces_meaning (by.ReadsBraces.braces r) = inr (_, _, _, refl, r)

no_braces : {ts : List Placed} → Stops brace_rank 0 ts → Only ReadsBraces (Stops brace_rank 0) ts ts []
no_braces {ts = ts} e us' ps' r e' = go (braces_meaning r)
  where
    go : BracesMeaning ts us' ps' → (ts ≡ us') × ([] ≡ ps')
    go (inl (x, y)) = (sym x, sym y)
    go (inr (a, b, vs, begins, _)) =
        let h : 1 ≤ 0 = subst (Stops brace_rank 0) begins e in
        absurd (omega arith)

in_braces : {a b : ℕ} {ts us : List Placed} {ps : List Parameter} → Only ReadsParameters IsClosed ts (symbol close_brace at b ∷ us) ps →
    Only ReadsBraces (Stops brace_rank 0) (symbol open_brace at a ∷ ts) us ps
in_braces {a = a} {b = b} {ts = ts} {us = us} {ps = ps} only us' ps' r e' = go (braces_meaning r)
  where
    go : BracesMeaning (symbol open_brace at a ∷ ts) us' ps' → (us ≡ us') × (ps ≡ ps')
    go (inl (x, y)) =
        let h : 1 ≤ 0 = subst (Stops brace_rank 0) x e' in
        absurd (omega arith)
    go (inr (a', b', vs, begins, q)) =
        let f = only (symbol close_brace at b' ∷ us') ps' (subst (λ z. ReadsParameters z (symbol close_brace at b' ∷ us') ps') (sym (rest_same begins)) q) tt in
        (rest_same f.0, f.1)

pub unique_braces : {ts us : List Placed} {ps : List Parameter} → ReadsBraces ts us ps → Stops brace_rank 0 us → Only ReadsBraces (Stops brace_rank 0) ts us ps
unique_braces by.ReadsBraces.none e = no_braces e
unique_braces (by.ReadsBraces.braces r) e = in_braces (unique_parameters r tt)
