-- The tokens that can be reached stand in each list that is closed.
use Rattle.std.proofs.Common.{◌≡◌, ℕ, List, [], Some, subst}
use Rattle.std.specs.List.{AllByRecursion}
use Rattle.rng_model.specs.Patterns as simple
use Rattle.derivative_laws.proofs.Members.{IsIn}
use Rattle.grammar_laws.specs.Files.{Full}
use Rattle.simple_form_laws.specs.Meaning.{Means}
use Rattle.simple_form_laws.specs.Forms.{ElementToken, token_of, tree, HasRef, IsReached, from_start, from_content}
use Rattle.simple_form_laws.proofs.OneMeaning.{means-same, found}
use Rattle.simple_form_laws.proofs.Loops.{all_in}

-- the token's content has a simple form whose references stand in the list
abbrev pub StaysIn : Full → List ℕ → ℕ → Type 0
StaysIn f kept m =
    (t : ElementToken) × (q : simple.Pattern) × (token_of f m ≡ Some t) × Means f.files t.scope t.content q × ((n : ℕ) → HasRef n q → IsIn n kept)

pub reached_in : (f : Full) (kept : List ℕ) (q : simple.Pattern) → Means f.files [] (tree f) q → ((n : ℕ) → HasRef n q → IsIn n kept) → AllByRecursion (StaysIn f kept) kept → (n : ℕ) → IsReached f n → IsIn n kept
reached_in f kept q h r c n (from_start k s) = r n (subst (HasRef n) (means-same f.files k h) s)
reached_in f kept q h r c n (from_content {m = m} {t = t} v e k s) =
    let w = all_in (StaysIn f kept) m kept c (reached_in f kept q h r c m v) in
    let same = found w.2 e in
    let l = subst (λ x. Means f.files x.scope x.content w.1) same w.3 in
    w.4 n (subst (HasRef n) (means-same f.files k l) s)
