-- The place of a syntax error: where the reader is refused behind tokens that begin a schema.
use Rattle.std.proofs.Common.{◌≡◌, ℕ, List, [], ◌∷◌, ◌++◌, length, take, refl, sym, ap, ◌∙◌, subst}
use Rattle.std.proofs.Math.Seq.{take-append_seam}
use Rattle.token_laws.specs.Tokens.{Placed, ◌at◌}
use Rattle.grammar_laws.specs.Grammar.{Begins}
use Rattle.grammar_laws.specs.Faults.{SyntaxAt}
use Rattle.grammar_laws.specs.Prefixes.{place_at}
use Rattle.grammar_laws.proofs.Prefixes.{syntax_at}
use Rattle.syntax_laws.specs.Expecting.{Stands, Sticks}
use Rattle.syntax_laws.specs.Expecting as part
use Rattle.syntax_laws.proofs.Local.{stands_suffix}
use Rattle.syntax_laws.proofs.ReadsFiles.{nothing_behind}
use Rattle.syntax_laws.proofs.SoundRuns.{begins as read_begins}

pub place_behind : (before us : List Placed) (end : ℕ) → place_at (before ++ us) end (length before) ≡ place_at us end 0
place_behind [] us end = refl
place_behind (t at a ∷ before) us end = place_behind before us end

pub stuck_place : (ts before us : List Placed) (end : ℕ) → Sticks (part.declarations ∷ part.body ∷ part.end ∷ []) ts us → ts ≡ before ++ us → Begins before → SyntaxAt ts end (place_at us end 0)
stuck_place ts before us end s same begins =
    let passed : take (length before) ts ≡ before = ap (take (length before)) same ∙ take-append_seam before us in
    let error = syntax_at (length before) ts end (subst Begins (sym passed) begins) (λ vs f agree d. nothing_behind ts before us vs f s same agree d) in
    subst (SyntaxAt ts end) (ap (λ z. place_at z end (length before)) same ∙ place_behind before us end) error

-- the place of the error, from the parts on which the reader sticks alone
pub sticks_at_error : (ts us : List Placed) (end : ℕ) → Sticks (part.declarations ∷ part.body ∷ part.end ∷ []) ts us → SyntaxAt ts end (place_at us end 0)
sticks_at_error ts us end s =
    go s
  where
    go : Sticks (part.declarations ∷ part.body ∷ part.end ∷ []) ts us → SyntaxAt ts end (place_at us end 0)
    go (ys, stands, refused) =
        let h = stands_suffix stands in
        let b = read_begins h.0 us ys (subst (λ z. Stands (part.declarations ∷ part.body ∷ part.end ∷ []) z ys us) h.1 stands) in
        stuck_place ts h.0 us end (ys, stands, refused) h.1 b
