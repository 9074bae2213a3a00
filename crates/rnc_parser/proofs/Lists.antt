-- Literals, declarations and parameters, read by loops.
use Rattle.std.proofs.Common.{◌≡◌, ℕ, true, false, List, [], ◌∷◌, ◌++◌, Some, Ok, refl, sym, ap, ◌∙◌, subst}
use Rattle.rng_model.specs.Texts.{Text}
use Rattle.token_laws.specs.Tokens.{Token, segment, symbol, Placed, ◌at◌, tilde}
use Rattle.grammar_laws.specs.Trees as tree
use Rattle.grammar_laws.specs.Grammar.{ReadsLiteral, ReadsDeclaration, ReadsDeclarations, ReadsParameters}
use Rattle.grammar_laws.proofs.Loops.{LeadLiteral, no_segment, next_segment, last_segment, LeadDeclarations, no_declarations, next_declaration, all_declarations, LeadParameters, no_parameters, next_parameter, all_parameters}
use Rattle.syntax_laws.specs.Expecting.{Part, pass, become, refuse, first, next, Stands, is_symbol, begins_declaration, begins_parameter}
use Rattle.syntax_laws.specs.Expecting as part
use Rattle.rnc_parser.specs.Reading.{Parsed, parsed}
use Rattle.rnc_parser.specs.Parts.{ReadsParameter}
use Rattle.rnc_parser.proofs.Steps.{begin, turn, past, read, took, made, no_symbol}

-- literals
abbrev pub LiteralAt : List Placed → List Placed → Text → Type 0
LiteralAt ts us s = LeadLiteral ts us s × Stands (part.literal ∷ []) ts (part.literal ∷ []) us

pub literal_begins : {ts : List Placed} → LiteralAt ts ts []
literal_begins {ts = ts} = (no_segment ts, begin)

segment_first : {us vs : List Placed} {n : Text} {t : Token} {a : ℕ} → us ≡ t at a ∷ vs → t ≡ segment n → us ≡ segment n at a ∷ vs
segment_first {vs = vs} {a = a} e f = e ∙ ap (λ z. z at a ∷ vs) f

pub literal_step : {ts us vs ws : List Placed} (s l : Text) → LiteralAt ts us s →
    (t : Token) × (a : ℕ) × (us ≡ t at a ∷ vs) × (next part.one_segment (Some t) ≡ pass []) × ((n : Text) × (t ≡ segment n) × (l ≡ s ++ n)) →
    (b : ℕ) × (vs ≡ symbol tilde at b ∷ ws) → LiteralAt ts ws l
literal_step {ts = ts} {ws = ws} s l here m (b, e) =
    subst (LiteralAt ts ws) (sym m.4.2)
    (next_segment s (subst (λ z. LeadLiteral ts z s) (segment_first m.2 m.4.1 ∙ ap (λ z. segment m.4.0 at m.1 ∷ z) e) here.0), past (took (turn here.1 refl) m) e refl)

pub literal_ends : {ts us vs ws : List Placed} (s l : Text) → LiteralAt ts us s →
    (t : Token) × (a : ℕ) × (us ≡ t at a ∷ vs) × (next part.one_segment (Some t) ≡ pass []) × ((n : Text) × (t ≡ segment n) × (l ≡ s ++ n)) →
    (ws ≡ vs) × ((a : ℕ) (xs : List Placed) → vs ≡ symbol tilde at a ∷ xs → ⊥) → Parsed (part.literal ∷ []) ReadsLiteral ts (Ok l) ws
literal_ends {ts = ts} {vs = vs} s l here m (e, h) =
    subst (λ z. Parsed (part.literal ∷ []) ReadsLiteral ts (Ok l) z) (sym e)
    (subst (λ z. Parsed (part.literal ∷ []) ReadsLiteral ts (Ok z) vs) (sym m.4.2)
    (parsed (last_segment s (subst (λ z. LeadLiteral ts z s) (segment_first m.2 m.4.1) here.0)) (turn (took (turn here.1 refl) m) (ap part.more_literal_move (no_symbol tilde vs h)))))

-- declarations
abbrev pub DeclarationsAt : List Placed → List Placed → List tree.Declaration → Type 0
DeclarationsAt ts us ds = LeadDeclarations ts us ds × Stands (part.declarations ∷ []) ts (part.declarations ∷ []) us

pub declarations_begin : {ts : List Placed} → DeclarationsAt ts ts []
declarations_begin {ts = ts} = (no_declarations ts, begin)

pub another_declaration : {ts us : List Placed} (ds : List tree.Declaration) → DeclarationsAt ts us ds → true ≡ begins_declaration (first us) → Stands (part.declarations ∷ []) ts (part.declaration ∷ part.declarations ∷ []) us
another_declaration ds here e = turn here.1 (ap part.declarations_move (sym e))

pub declarations_step : {A : Type 0} (of : A → tree.Declaration) {v : A} {ts us vs : List Placed} (ds : List tree.Declaration) → DeclarationsAt ts us ds → true ≡ begins_declaration (first us) →
    Parsed (part.declaration ∷ []) (λ xs ys d. ReadsDeclaration xs ys (of d)) us (Ok v) vs → DeclarationsAt ts vs (ds ++ of v ∷ [])
declarations_step of ds here e r = (next_declaration ds here.0 (made r), read (another_declaration ds here e) r)

pub declarations_end : {A : Type 0} (of : A → List tree.Declaration) {v : A} {ts us : List Placed} → DeclarationsAt ts us (of v) → false ≡ begins_declaration (first us) →
    Parsed (part.declarations ∷ []) (λ xs ys ds. ReadsDeclarations xs ys (of ds)) ts (Ok v) us
declarations_end of {v = v} here e = parsed (all_declarations (of v) here.0) (turn here.1 (ap part.declarations_move (sym e)))

-- parameters
abbrev pub ParametersAt : List Placed → List Placed → List tree.Parameter → Type 0
ParametersAt ts us ps = LeadParameters ts us ps × Stands (part.parameters ∷ []) ts (part.parameters ∷ []) us

pub parameters_begin : {ts : List Placed} → ParametersAt ts ts []
parameters_begin {ts = ts} = (no_parameters ts, begin)

pub another_parameter : {ts us : List Placed} (ps : List tree.Parameter) → ParametersAt ts us ps → true ≡ begins_parameter (first us) → Stands (part.parameters ∷ []) ts (part.parameter ∷ part.parameters ∷ []) us
another_parameter ps here e = turn here.1 (ap part.parameters_move (sym e))

one_more : {ts us vs : List Placed} (ps : List tree.Parameter) (p : tree.Parameter) → LeadParameters ts us ps → ReadsParameter us vs p → LeadParameters ts vs (ps ++ p ∷ [])
one_more ps p lead (t, b, ws, bl, i, r) = next_parameter ps p.name lead bl i r

pub parameters_step : {A : Type 0} (of : A → tree.Parameter) {v : A} {ts us vs : List Placed} (ps : List tree.Parameter) → ParametersAt ts us ps → true ≡ begins_parameter (first us) →
    Parsed (part.parameter ∷ []) (λ xs ys d. ReadsParameter xs ys (of d)) us (Ok v) vs → ParametersAt ts vs (ps ++ of v ∷ [])
parameters_step of {v = v} ps here e r = (one_more ps (of v) here.0 (made r), read (another_parameter ps here e) r)

pub parameters_end : {A : Type 0} (of : A → List tree.Parameter) {v : A} {ts us : List Placed} → ParametersAt ts us (of v) → false ≡ begins_parameter (first us) →
    Parsed (part.parameters ∷ []) (λ xs ys ds. ReadsParameters xs ys (of ds)) ts (Ok v) us
parameters_end of {v = v} here e = parsed (all_parameters (of v) here.0) (turn here.1 (ap part.parameters_move (sym e)))
