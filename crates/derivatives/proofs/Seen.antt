-- What a step keeps of the derivatives that contracts see.
use Rattle.std.proofs.Common.{◌≡◌, ℕ, zero, suc, ◌∙◌, List, [], ◌∷◌, Some, Result, IfOk, get_or, slice_get, slice_index_or, ap, sym, subst}
use Rattle.rng_model.specs.Derivatives.{opening}
use Rattle.rng_model.specs.Names.{Name}
use Rattle.rng_model.specs.States.{no_name}
use Rattle.rng_model.specs.Texts.{Text}
use Rattle.pattern_intern.specs.Schemas.{Numbered}
use Rattle.pattern_intern.specs.Stored.{Stored, Extends, tree_at}
use Rattle.pattern_intern.specs.declared.id.PatternId.{PatternId}
use Rattle.value_sets.specs.Numbers.{AreSets}
use Rattle.derivatives.specs.KeptTexts.{AreTextResults}
use Rattle.derivatives.specs.Steps.{Keeps}
use Rattle.derivatives.specs.Views.{Machine, machine}
use Rattle.derivatives.specs.declared.text_results.TextResults.{TextResults}
use Rattle.derivatives.proofs.KeepingTexts.{texts_begin}

-- the schema's pool has grown
pub keeps_seen : (inside seen : Machine) (new : Numbered) → inside ≡ seen → Extends inside.numbered.pool new.pool → new.schema ≡ inside.numbered.schema →
    Keeps seen (machine new inside.universe inside.atoms)
keeps_seen inside seen new is e same = record {
  pool = subst (λ (d : Machine). Extends d.numbered.pool new.pool) is e;
  schema = same ∙ ap (λ (d : Machine). d.numbered.schema) is;
  universe = ap (λ (d : Machine). d.universe) is;
  atoms = ap (λ (d : Machine). d.atoms) is;
}

-- the results after a text have been forgotten
pub texts_cleared : (t : Text) (s : Stored) (old new : TextResults) → new.results ≡ [] → new.choices ≡ old.choices → AreSets s old.choices → AreTextResults t s new
texts_cleared t s old new none same sets = texts_begin t s new none (subst (AreSets s) (sym same) sets)

get_is : {A : Type 0} (xs : List A) (i : ℕ) (x d : A) → slice_get xs i ≡ Some x → x ≡ get_or xs i d
get_is [] i x d e = absurd (cc)
get_is (y ∷ xs) zero x d e = cc
get_is (y ∷ xs) (suc i) x d e = get_is xs i x d e

-- what is opened by the name at a position
pub opened_seen : {E : Type 0} (r : Result PatternId E) (new : Stored) (inside seen : Machine) (names : List Name) (i : ℕ) (n : Name) (id : ℕ) → inside ≡ seen →
    names ≡ inside.universe.elements.names → slice_get names i ≡ Some n →
    IfOk r (λ p. tree_at new p.0 ≡ opening inside.numbered.schema n (tree_at inside.numbered.pool id)) →
    IfOk r (λ p. tree_at new p.0 ≡ opening seen.numbered.schema (slice_index_or seen.universe.elements.names i no_name) (tree_at seen.numbered.pool id))
opened_seen r new inside seen names i n id is same at h =
    let here = get_is inside.universe.elements.names i n no_name (subst (λ (ns : List Name). slice_get ns i ≡ Some n) same at) in
    subst (λ (d : Machine). IfOk r (λ p. tree_at new p.0 ≡ opening d.numbered.schema (slice_index_or d.universe.elements.names i no_name) (tree_at d.numbered.pool id))) is
    (subst (λ (m : Name). IfOk r (λ p. tree_at new p.0 ≡ opening inside.numbered.schema m (tree_at inside.numbered.pool id))) here h)
