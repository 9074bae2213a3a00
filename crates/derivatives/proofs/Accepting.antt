-- Where nothing more need follow, the document is matched.
use Rattle.std.proofs.Common.{◌≡◌, ◌↔◌, Bool, List, IsTrue, ap, sym, ◌∙◌, subst}
use Rattle.std.specs.List.Sorted.{IsStrictlySortedBy}
use Rattle.rng_model.specs.Names.{name_cmp}
use Rattle.rng_model.specs.Patterns.{Schema}
use Rattle.rng_model.specs.Hedges.{Skeleton, IsSkeleton}
use Rattle.rng_model.specs.Events.{events}
use Rattle.rng_model.specs.Matching.{MatchesDocument, nullable}
use Rattle.rng_model.specs.Restrictions.{BreaksNoRule}
use Rattle.rng_model.specs.Universe.{Lists}
use Rattle.rng_model.specs.Codes.{Code, AreCodes}
use Rattle.rng_model.specs.States.{after_codes}
use Rattle.pattern_intern.specs.Stored.{tree_at}
use Rattle.derivatives.specs.Views.{Machine, lists}
use Rattle.derivatives.specs.Steps.{Decides}
use Rattle.derivatives.specs.declared.states.State.{State}

abbrev pub Law : Type 0
Law = (g : Schema) (u : Lists) → BreaksNoRule g → IsStrictlySortedBy name_cmp u.attributes →
    (s : Skeleton) → IsSkeleton s → (codes : List Code) → AreCodes u (events s) codes →
    MatchesDocument g s ↔ IsTrue (nullable (after_codes g u codes).pattern)

pub decides : Law → (d : Machine) (s : State) (answer : Bool) → IsStrictlySortedBy name_cmp (lists d).attributes →
    answer ≡ nullable (tree_at d.numbered.pool s.pattern.0) → Decides d s answer
decides law d s answer ascending is unbroken t skeleton codes are leads =
    subst (λ r. MatchesDocument d.numbered.schema t ↔ IsTrue r) (ap (λ x. nullable x.pattern) leads ∙ sym is)
    (law d.numbered.schema (lists d) unbroken ascending t skeleton codes are)
