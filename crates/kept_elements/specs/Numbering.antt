-- The loops that find the kept elements' numbers and make patterns again, as far as they have come.
use Rattle.std.specs.Prelude.{◌≡◌, ℕ, ◌<◌, Bool, List, Option, length}
use Rattle.std.specs.List.{AllByRecursion}
use Rattle.std.specs.List.Sorted.{IsStrictlySortedBy}
use Rattle.std.specs.Ordering.{nat_cmp}
use Rattle.rng_model.specs.Patterns.{ref}
use Rattle.derivative_laws.proofs.Members.{IsIn}
use Rattle.schema_graph.specs.declared.graph.Graph.{Graph}
use Rattle.pattern_intern.specs.Schemas.{AreRefsBelow}
use Rattle.pattern_intern.specs.Stored.{Stored, tree_at}
use Rattle.pattern_intern.specs.declared.id.PatternId.{PatternId}
use Rattle.kept_elements.specs.Wanted.{IsWanted}
use Rattle.kept_elements.specs.Marking.{IsMarked}
use Rattle.kept_elements.specs.Renumbering.{IsListed}

-- the marked numbers below i
pub record AreNumbers (marks : List Bool) (i : ℕ) (numbers : List ℕ) : Type 0 where
  pub ascending : IsStrictlySortedBy nat_cmp numbers
  pub below : AllByRecursion (λ y. y < i) numbers
  pub sound : (n : ℕ) → IsIn n numbers → IsMarked marks n
  pub complete : (n : ℕ) → n < i → IsMarked marks n → IsIn n numbers

-- the elements that marked patterns below i refer to
pub record AreReferred (g : Graph) (pool : Stored) (forms : List (Option PatternId)) (marks : List Bool) (i : ℕ) (elements : List Bool) : Type 0 where
  pub each : length elements ≡ length g.elements.items
  pub sound : (n : ℕ) → IsMarked elements n → IsWanted g pool forms (ref n)
  pub complete : (k n : ℕ) → k < i → IsMarked marks k → tree_at pool k ≡ ref n → IsMarked elements n

-- the marked patterns below i are made again
pub record AreMade (old new : Stored) (kept : List ℕ) (marks : List Bool) (i : ℕ) (made : List PatternId) : Type 0 where
  pub each : length made ≡ i
  pub listed : (j : ℕ) → j < i → IsMarked marks j → IsListed old new kept made j
  pub refs : AreRefsBelow (length kept) new
