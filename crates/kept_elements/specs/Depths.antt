-- A search for something too deep, as far as it has come.
use Rattle.std.specs.Prelude.{◌≡◌, ℕ, ◌<◌, Bool, List, Option, Some, slice_get}
use Rattle.schema_graph.specs.declared.graph.Graph.{Graph}
use Rattle.pattern_intern.specs.Stored.{Stored, tree_at}
use Rattle.pattern_intern.specs.declared.id.PatternId.{PatternId}
use Rattle.kept_elements.specs.Marking.{IsMarked}
use Rattle.kept_elements.specs.Outcomes.{IsDeepElement, IsDeepAttribute}

-- none of the first i is such a one
pub record NoneBelow (P : ℕ → Type 0) (i : ℕ) : Type 0 where
  pub none : (j : ℕ) → j < i → P j → ⊥

abbrev pub IsDeepAt : Graph → Stored → List (Option PatternId) → List ℕ → ℕ → Type 0
IsDeepAt g pool forms kept j = (n : ℕ) × (slice_get kept j ≡ Some n) × IsDeepElement g pool forms n

abbrev pub IsDeepMarked : Stored → List Bool → ℕ → Type 0
IsDeepMarked pool marks j = IsMarked marks j × IsDeepAttribute (tree_at pool j)
