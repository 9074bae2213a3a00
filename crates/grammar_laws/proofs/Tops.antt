-- From the failure of a declaration or of the body to that of the whole text.
use Rattle.std.proofs.Common.{◌≡◌, ℕ, ◌+◌, inl, inr, List, [], ◌++◌, length, take, sym, ap, ◌∙◌, subst, append_assoc, append-nil}
use Rattle.token_laws.specs.Tokens.{Placed}
use Rattle.grammar_laws.specs.Trees.{Declaration, Body, File}
use Rattle.grammar_laws.specs.Grammar.{ReadsDeclaration, ReadsDeclarations, ReadsPattern, ReadsItems, DerivesBody, Derives, Begins}
use Rattle.grammar_laws.specs.Grammar as by
use Rattle.grammar_laws.specs.Prefixes.{AgreeThrough, FailsAt, CanFinish}
use Rattle.grammar_laws.proofs.Ends.{Stops, tilde_rank}
use Rattle.grammar_laws.proofs.Parameters.{IsClosed}
use Rattle.grammar_laws.proofs.Patterns.{End}
use Rattle.grammar_laws.proofs.Declarations.{declaration_rank, unique_declaration, unique_declarations, first_of_declaration, no_tilde_first, before, DeclarationsMeaning, declarations_meaning}
use Rattle.grammar_laws.proofs.Trees.{body_begins, DerivesMeaning, derives_meaning}
use Rattle.grammar_laws.proofs.Fronts.{part_declarations}
use Rattle.grammar_laws.proofs.Prefixes.{stops_alike, Carried, carry, take-append-add}

-- no list that agrees through the token k has a tree
abbrev pub HasNoTree : ℕ → List Placed → Type 0
HasNoTree k ts = (us : List Placed) (f : File) → AgreeThrough k ts us → Derives us f → ⊥

abbrev pub declarations_length : {ts us : List Placed} {ds : List Declaration} → ReadsDeclarations ts us ds → ℕ
declarations_length ds = length ((part_declarations ds).1.0)

-- neither a pattern nor items up to the end
abbrev pub HasNoBody : ℕ → List Placed → Type 0
HasNoBody k ts = (us : List Placed) (b : Body) → AgreeThrough k ts us → DerivesBody us b → ⊥

pub no_body : (k : ℕ) (ts : List Placed) → FailsAt ReadsPattern (End 0) k ts → FailsAt ReadsItems IsClosed k ts → HasNoBody k ts
no_body k ts f g us b e (by.DerivesBody.pattern {p = p} r) = f us [] p e r tt
no_body k ts f g us b e (by.DerivesBody.items {is = is} r) = g us [] is e r tt

-- the declarations are read, and no body stands behind them
pub body_fails : {ts us : List Placed} {ds : List Declaration} (r : ReadsDeclarations ts us ds) → Stops declaration_rank 0 us → (j : ℕ) → HasNoBody j us → HasNoTree (declarations_length r + j) ts
body_fails {us = us} r end j none ts' f e d =
    let m = derives_meaning d in
    let c = carry ReadsDeclarations (part_declarations r) j ts' e in
    let same = (unique_declarations c.1 (stops_alike declaration_rank 0 j us c.0 c.2 end) m.0 f.declarations m.1 (body_begins m.2)).0 in
    none m.0 f.body (subst (AgreeThrough j us) same c.2) m.2

-- after some declarations the others are read
abbrev Others : List Placed → List Placed → Type 0
Others us vs = (fs : List Declaration) × ReadsDeclarations us vs fs

more_others : {ts xs us vs : List Placed} {d : Declaration} {es : List Declaration} → ReadsDeclaration ts xs d → Stops tilde_rank 0 xs →
    ((fs : List Declaration) → ReadsDeclarations xs vs fs → Others us vs) → ReadsDeclarations ts vs es → Stops declaration_rank 0 vs → Others us vs
more_others {ts = ts} {us = us} {vs = vs} {es = es} d s more r end = go (declarations_meaning r)
  where
    go : DeclarationsMeaning ts vs es → Others us vs
    go (inl (x, y)) = absurd (first_of_declaration d (subst (Stops declaration_rank 0) x end))
    go (inr (ws, e, fs, r', rs, made)) =
        let f = unique_declaration d s ws e r' (before rs end) in
        more fs (subst (λ z. ReadsDeclarations z vs fs) (sym f.0) rs)

no_tilde_between : {ts us : List Placed} {ds : List Declaration} → ReadsDeclarations ts us ds → Stops tilde_rank 0 us → Stops tilde_rank 0 ts
no_tilde_between by.ReadsDeclarations.none s = s
no_tilde_between (by.ReadsDeclarations.more d ds) s = no_tilde_first d

others : {ts us vs : List Placed} {ds es : List Declaration} → ReadsDeclarations ts us ds → Stops tilde_rank 0 us → ReadsDeclarations ts vs es → Stops declaration_rank 0 vs → Others us vs
others {es = es} by.ReadsDeclarations.none s r end = (es, r)
others (by.ReadsDeclarations.more d ds) s r end = more_others d (no_tilde_between ds s) (λ fs q. others ds s q end) r end

-- the declarations are read, another begins, and fails
pub declaration_fails : {ts us : List Placed} {ds : List Declaration} (r : ReadsDeclarations ts us ds) → Stops tilde_rank 0 us → (Stops declaration_rank 0 us → ⊥) →
    (j : ℕ) → FailsAt ReadsDeclaration (Stops tilde_rank 0) j us → HasNoTree (declarations_length r + j) ts
declaration_fails {ts = ts} {us = us} {ds = ds} r s begins j fails ts' f e d = go (declarations_meaning (rest.1))
  where
    m : DerivesMeaning ts' f
    m = derives_meaning d

    c : Carried ReadsDeclarations ts us ds j ts'
    c = carry ReadsDeclarations (part_declarations r) j ts' e

    rest : Others c.0 m.0
    rest = others c.1 (stops_alike tilde_rank 0 j us c.0 c.2 s) m.1 (body_begins m.2)

    go : DeclarationsMeaning c.0 m.0 rest.0 → ⊥
    go (inl (x, y)) = begins (stops_alike declaration_rank 0 j c.0 us (sym c.2) (subst (Stops declaration_rank 0) x (body_begins m.2)))
    go (inr (ws, g, gs, r', rs, made)) = fails c.0 ws g c.2 r' (before rs (body_begins m.2))

-- What begins a declaration or a body behind declarations begins a schema.
-- behind the declarations xs, what k tokens of us and then zs derive
begun : (xs us zs : List Placed) (k : ℕ) (b : Body) {ds : List Declaration} → ((vs : List Placed) → ReadsDeclarations (xs ++ vs) vs ds) → DerivesBody (take k us ++ (zs ++ [])) b →
    Begins (take (length xs + k) (xs ++ us))
begun xs us zs k b {ds = ds} reads body =
    (zs, record { declarations = ds; body = b }, subst (λ z. Derives z (record { declarations = ds; body = b })) (sym whole) (by.top (reads (take k us ++ (zs ++ []))) body))
  where
    whole : take (length xs + k) (xs ++ us) ++ zs ≡ xs ++ (take k us ++ (zs ++ []))
    whole =
        ap (λ z. z ++ zs) (take-append-add xs k us)
        ∙ (append_assoc xs (take k us) zs ∙ ap (λ z. xs ++ (take k us ++ z)) (sym (append-nil zs)))

at_place : {ts us : List Placed} {ds : List Declaration} (r : ReadsDeclarations ts us ds) (k : ℕ) →
    Begins (take (declarations_length r + k) ((part_declarations r).1.0 ++ us)) → Begins (take (declarations_length r + k) ts)
at_place {us = us} r k b =
    let m = part_declarations r in
    subst (λ z. Begins (take (declarations_length r + k) z)) (sym (m.2 ∙ sym (m.1.1 us))) b

reads_front : {ts us : List Placed} {ds : List Declaration} (r : ReadsDeclarations ts us ds) (vs : List Placed) → ReadsDeclarations ((part_declarations r).1.0 ++ vs) vs ds
reads_front {ds = ds} r vs =
    let m = part_declarations r in
    subst (λ z. ReadsDeclarations z vs ds) (sym (m.1.1 vs)) (m.3 vs)

pub pattern_begins : {ts us : List Placed} {ds : List Declaration} (r : ReadsDeclarations ts us ds) (k : ℕ) → CanFinish ReadsPattern k us → Begins (take (declarations_length r + k) ts)
pattern_begins {us = us} r k (zs, p, reads) =
    at_place r k (begun ((part_declarations r).1.0) us zs k (Body.pattern p) (reads_front r) (by.DerivesBody.pattern (reads [])))

pub items_begin : {ts us : List Placed} {ds : List Declaration} (r : ReadsDeclarations ts us ds) (k : ℕ) → CanFinish ReadsItems k us → Begins (take (declarations_length r + k) ts)
items_begin {us = us} r k (zs, is, reads) =
    at_place r k (begun ((part_declarations r).1.0) us zs k (Body.items is) (reads_front r) (by.DerivesBody.items (reads [])))
