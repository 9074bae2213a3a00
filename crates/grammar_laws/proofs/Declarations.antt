-- Declarations are read in one way.
use Rattle.std.proofs.Common.{◌≡◌, ℕ, zero-le, ◌≤◌, ◌⊎◌, inl, inr, List, [], ◌∷◌, Some, None, refl, sym, ◌∙◌, subst, arith}
use Rattle.rng_model.specs.Texts.{Text}
use Rattle.token_laws.specs.Tokens.{Keyword, Symbol, Token, keyword, ident, cname, ns_name, segment, symbol, Placed, ◌at◌, open_brace, close_brace, open_paren, close_paren, open_bracket, close_bracket, equals, bar_equals, ampersand_equals, comma, ampersand, bar, question, star, plus, minus, tilde, follows}
use Rattle.token_laws.specs.Tokens as word
use Rattle.grammar_laws.specs.Trees.{Uri, Declaration}
use Rattle.grammar_laws.specs.Grammar.{ReadsLiteral, IsAnyId, IsAnnotationName, IsNoBracket, ReadsFilling, ReadsBlock, ReadsBlocks, ReadsFollow, ReadsUri, ReadsDeclaration, ReadsDeclarations, ReadsParameters, ReadsBraces, ReadsInherit}
use Rattle.grammar_laws.specs.Grammar as by
use Rattle.grammar_laws.proofs.Ends.{Stops, tilde_rank, Only, rest_same}
use Rattle.grammar_laws.proofs.Leaves.{any_id_same, unique_uri, unique_literal}

-- a declaration by its first token
abbrev NamespaceMeaning : ℕ → List Placed → List Placed → Declaration → Type 0
NamespaceMeaning a ts us d =
    (t : Token) × (p : Text) × (u : Uri) × (b : ℕ) × (c : ℕ) × (vs : List Placed) ×
    (ts ≡ t at b ∷ symbol equals at c ∷ vs) × IsAnyId t p × ReadsUri vs us u × (d ≡ Declaration.namespace_prefix p u a)

abbrev PlainMeaning : ℕ → List Placed → List Placed → Declaration → Type 0
PlainMeaning a ts us d =
    (u : Uri) × (c : ℕ) × (vs : List Placed) × (ts ≡ symbol equals at c ∷ vs) × ReadsUri vs us u × (d ≡ Declaration.default_namespace None u a)

abbrev PrefixMeaning : ℕ → List Placed → List Placed → Declaration → Type 0
PrefixMeaning a ts us d =
    (t : Token) × (p : Text) × (u : Uri) × (b : ℕ) × (c : ℕ) × (vs : List Placed) ×
    (ts ≡ t at b ∷ symbol equals at c ∷ vs) × IsAnyId t p × ReadsUri vs us u × (d ≡ Declaration.default_namespace (Some p) u a)

abbrev DefaultMeaning : ℕ → List Placed → List Placed → Declaration → Type 0
DefaultMeaning a ts us d =
    (b : ℕ) × (vs : List Placed) × (ts ≡ keyword word.namespace at b ∷ vs) × (PlainMeaning a vs us d ⊎ PrefixMeaning a vs us d)

abbrev DatatypesMeaning : ℕ → List Placed → List Placed → Declaration → Type 0
DatatypesMeaning a ts us d =
    (t : Token) × (p : Text) × (l : Text) × (b : ℕ) × (c : ℕ) × (vs : List Placed) ×
    (ts ≡ t at b ∷ symbol equals at c ∷ vs) × IsAnyId t p × ReadsLiteral vs us l × (d ≡ Declaration.datatypes p l a)

abbrev DeclarationMeaning : List Placed → List Placed → Declaration → Type 0
DeclarationMeaning (keyword word.namespace at a ∷ ts) us d = NamespaceMeaning a ts us d
DeclarationMeaning (keyword word.default at a ∷ ts) us d = DefaultMeaning a ts us d
DeclarationMeaning (keyword word.datatypes at a ∷ ts) us d = DatatypesMeaning a ts us d
DeclarationMeaning _ us d = ⊥

declaration_meaning : {ts us : List Placed} {d : Declaration} → ReadsDeclaration ts us d → DeclarationMeaning ts us d
declaration_meaning (by.namespace i r) = (_, _, _, _, _, _, refl, i, r, refl)
declaration_meaning (by.default r) = (_, _, refl, inl (_, _, _, refl, r, refl))
declaration_meaning (by.default_prefix i r) = (_, _, refl, inr (_, _, _, _, _, _, refl, i, r, refl))
declaration_meaning (by.datatypes i r) = (_, _, _, _, _, _, refl, i, r, refl)

pub token_same : {t u : Token} {a b : ℕ} {ts us : List Placed} → t at a ∷ ts ≡ u at b ∷ us → t ≡ u
token_same e = cc

pub id_same : {t u : Token} {m n : Text} → t ≡ u → IsAnyId t m → IsAnyId u n → m ≡ n
id_same {t = t} {u = u} {m = m} {n = n} e i j = any_id_same t m n i (subst (λ z. IsAnyId z n) (sym e) j)

one_namespace : {t : Token} {p : Text} {u : Uri} {a b c : ℕ} {ts us : List Placed} → IsAnyId t p → Only ReadsUri (Stops tilde_rank 0) ts us u →
    Only ReadsDeclaration (Stops tilde_rank 0) (keyword word.namespace at a ∷ t at b ∷ symbol equals at c ∷ ts) us (Declaration.namespace_prefix p u a)
one_namespace {t = t} {p = p} {u = u} {a = a} {b = b} {c = c} {ts = ts} {us = us} i only us' d' r e' = go (declaration_meaning r)
  where
    go : NamespaceMeaning a (t at b ∷ symbol equals at c ∷ ts) us' d' → (us ≡ us') × (Declaration.namespace_prefix p u a ≡ d')
    go (t', p', u', b', c', vs, begins, i', r', made) =
        let f = only us' u' (subst (λ z. ReadsUri z us' u') (sym (rest_same (rest_same begins))) r') e' in
        let same : p ≡ p' = id_same (token_same begins) i i' in
        let uri : u ≡ u' = f.1 in
        (f.0, cc)

one_default : {u : Uri} {a b c : ℕ} {ts us : List Placed} → Only ReadsUri (Stops tilde_rank 0) ts us u →
    Only ReadsDeclaration (Stops tilde_rank 0) (keyword word.default at a ∷ keyword word.namespace at b ∷ symbol equals at c ∷ ts) us (Declaration.default_namespace None u a)
one_default {u = u} {a = a} {b = b} {c = c} {ts = ts} {us = us} only us' d' r e' = go (declaration_meaning r)
  where
    pick : (vs : List Placed) → symbol equals at c ∷ ts ≡ vs → PlainMeaning a vs us' d' ⊎ PrefixMeaning a vs us' d' → (us ≡ us') × (Declaration.default_namespace None u a ≡ d')
    pick vs begins (inl (u', c', ws, next, r', made)) =
        let f = only us' u' (subst (λ z. ReadsUri z us' u') (sym (rest_same (begins ∙ next))) r') e' in
        let uri : u ≡ u' = f.1 in
        (f.0, cc)
    pick vs begins (inr (t', p', u', b', c', ws, next, i', r', made)) =
        let h : IsAnyId (symbol equals) p' = subst (λ z. IsAnyId z p') (sym (token_same (begins ∙ next))) i' in
        elim h [ ]

    go : DefaultMeaning a (keyword word.namespace at b ∷ symbol equals at c ∷ ts) us' d' → (us ≡ us') × (Declaration.default_namespace None u a ≡ d')
    go (b', vs, begins, which) = pick vs (rest_same begins) which

one_prefix : {t : Token} {p : Text} {u : Uri} {a b c e : ℕ} {ts us : List Placed} → IsAnyId t p → Only ReadsUri (Stops tilde_rank 0) ts us u →
    Only ReadsDeclaration (Stops tilde_rank 0) (keyword word.default at a ∷ keyword word.namespace at b ∷ t at c ∷ symbol equals at e ∷ ts) us (Declaration.default_namespace (Some p) u a)
one_prefix {t = t} {p = p} {u = u} {a = a} {b = b} {c = c} {e = e} {ts = ts} {us = us} i only us' d' r e' = go (declaration_meaning r)
  where
    pick : (vs : List Placed) → t at c ∷ symbol equals at e ∷ ts ≡ vs → PlainMeaning a vs us' d' ⊎ PrefixMeaning a vs us' d' → (us ≡ us') × (Declaration.default_namespace (Some p) u a ≡ d')
    pick vs begins (inl (u', c', ws, next, r', made)) =
        let h : IsAnyId (symbol equals) p = subst (λ z. IsAnyId z p) (token_same (begins ∙ next)) i in
        elim h [ ]
    pick vs begins (inr (t', p', u', b', c', ws, next, i', r', made)) =
        let f = only us' u' (subst (λ z. ReadsUri z us' u') (sym (rest_same (rest_same (begins ∙ next)))) r') e' in
        let same : p ≡ p' = id_same (token_same (begins ∙ next)) i i' in
        let uri : u ≡ u' = f.1 in
        (f.0, cc)

    go : DefaultMeaning a (keyword word.namespace at b ∷ t at c ∷ symbol equals at e ∷ ts) us' d' → (us ≡ us') × (Declaration.default_namespace (Some p) u a ≡ d')
    go (b', vs, begins, which) = pick vs (rest_same begins) which

one_datatypes : {t : Token} {p l : Text} {a b c : ℕ} {ts us : List Placed} → IsAnyId t p → Only ReadsLiteral (Stops tilde_rank 0) ts us l →
    Only ReadsDeclaration (Stops tilde_rank 0) (keyword word.datatypes at a ∷ t at b ∷ symbol equals at c ∷ ts) us (Declaration.datatypes p l a)
one_datatypes {t = t} {p = p} {l = l} {a = a} {b = b} {c = c} {ts = ts} {us = us} i only us' d' r e' = go (declaration_meaning r)
  where
    go : DatatypesMeaning a (t at b ∷ symbol equals at c ∷ ts) us' d' → (us ≡ us') × (Declaration.datatypes p l a ≡ d')
    go (t', p', l', b', c', vs, begins, i', r', made) =
        let f = only us' l' (subst (λ z. ReadsLiteral z us' l') (sym (rest_same (rest_same begins))) r') e' in
        let same : p ≡ p' = id_same (token_same begins) i i' in
        let literal : l ≡ l' = f.1 in
        (f.0, cc)

pub unique_declaration : {ts us : List Placed} {d : Declaration} → ReadsDeclaration ts us d → Stops tilde_rank 0 us → Only ReadsDeclaration (Stops tilde_rank 0) ts us d
unique_declaration (by.namespace i r) e = one_namespace i (unique_uri r e)
unique_declaration (by.default r) e = one_default (unique_uri r e)
unique_declaration (by.default_prefix i r) e = one_prefix i (unique_uri r e)
unique_declaration (by.datatypes i r) e = one_datatypes i (unique_literal r e)

-- what goes on with the declarations: another, or a literal's sign
abbrev pub declaration_rank : Token → ℕ
declaration_rank (keyword word.namespace) = 1
declaration_rank (keyword word.default) = 1
declaration_rank (keyword word.datatypes) = 1
declaration_rank (symbol tilde) = 1
declaration_rank _ = 0

pub no_tilde_after : (ts : List Placed) → Stops declaration_rank 0 ts → Stops tilde_rank 0 ts
no_tilde_after [] h = tt
no_tilde_after (symbol tilde at a ∷ ts) h = omega arith
no_tilde_after (t at a ∷ ts) h = zero_le
  where
    zero_le : 0 ≤ 0
    zero_le = omega arith

pub first_of_declaration : {ts us : List Placed} {d : Declaration} → ReadsDeclaration ts us d → Stops declaration_rank 0 ts → ⊥
first_of_declaration (by.namespace i r) e = absurd (omega arith)
first_of_declaration (by.default r) e = absurd (omega arith)
first_of_declaration (by.default_prefix i r) e = absurd (omega arith)
first_of_declaration (by.datatypes i r) e = absurd (omega arith)

pub no_tilde_first : {ts us : List Placed} {d : Declaration} → ReadsDeclaration ts us d → Stops tilde_rank 0 ts
no_tilde_first (by.namespace i r) = zero-le
no_tilde_first (by.default r) = zero-le
no_tilde_first (by.default_prefix i r) = zero-le
no_tilde_first (by.datatypes i r) = zero-le

pub before : {ts us : List Placed} {ds : List Declaration} → ReadsDeclarations ts us ds → Stops declaration_rank 0 us → Stops tilde_rank 0 ts
before (by.ReadsDeclarations.none {ts = ts}) e = no_tilde_after ts e
before (by.ReadsDeclarations.more d ds) e = no_tilde_first d

abbrev pub DeclarationsMeaning : List Placed → List Placed → List Declaration → Type 0
DeclarationsMeaning ts us ds =
    ((us ≡ ts) × (ds ≡ [])) ⊎ ((vs : List Placed) × (e : Declaration) × (es : List Declaration) × ReadsDeclaration ts vs e × ReadsDeclarations vs us es × (ds ≡ e ∷ es))

pub declarations_meaning : {ts us : List Placed} {ds : List Declaration} → ReadsDeclarations ts us ds → DeclarationsMeaning ts us ds
declarations_meaning by.ReadsDeclarations.none = inl (refl, refl)
declarations_meaning (by.ReadsDeclarations.more d ds) = inr (_, _, _, d, ds, refl)

no_declaration : {ts : List Placed} → Stops declaration_rank 0 ts → Only ReadsDeclarations (Stops declaration_rank 0) ts ts []
no_declaration {ts = ts} e us' ds' r e' = go (declarations_meaning r)
  where
    go : DeclarationsMeaning ts us' ds' → (ts ≡ us') × ([] ≡ ds')
    go (inl (x, y)) = (sym x, sym y)
    go (inr (vs, d, es, r, _, _)) = absurd (first_of_declaration r e)

more_declarations : {ts us vs : List Placed} {d : Declaration} {ds : List Declaration} → ReadsDeclaration ts us d → Only ReadsDeclaration (Stops tilde_rank 0) ts us d →
    Only ReadsDeclarations (Stops declaration_rank 0) us vs ds → Only ReadsDeclarations (Stops declaration_rank 0) ts vs (d ∷ ds)
more_declarations {ts = ts} {us = us} {vs = vs} {d = d} {ds = ds} first one only us' ds' r e' = go (declarations_meaning r)
  where
    go : DeclarationsMeaning ts us' ds' → (vs ≡ us') × (d ∷ ds ≡ ds')
    go (inl (x, y)) = absurd (first_of_declaration first (subst (Stops declaration_rank 0) x e'))
    go (inr (ws, d', es, r', rs, made)) =
        let f = one ws d' r' (before rs e') in
        let g = only us' es (subst (λ z. ReadsDeclarations z us' es) (sym f.0) rs) e' in
        let head : d ≡ d' = f.1 in
        let tail : ds ≡ es = g.1 in
        (g.0, cc)

pub unique_declarations : {ts us : List Placed} {ds : List Declaration} → ReadsDeclarations ts us ds → Stops declaration_rank 0 us → Only ReadsDeclarations (Stops declaration_rank 0) ts us ds
unique_declarations by.ReadsDeclarations.none e = no_declaration e
unique_declarations (by.ReadsDeclarations.more d ds) e = more_declarations d (unique_declaration d (before ds e)) (unique_declarations ds e)
