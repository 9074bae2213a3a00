-- Patterns made again with new numbers in their references.
use Rattle.std.specs.Prelude.{◌≡◌, ℕ, ◌<◌, Bool, List, Some, length, slice_get, Contains}
use Rattle.simple_form_laws.specs.Forms.{new_number, renumbered, RefsIn}
use Rattle.pattern_intern.specs.Schemas.{AreRefsBelow}
use Rattle.pattern_intern.specs.Stored.{Stored, count, tree_at}
use Rattle.pattern_intern.specs.declared.id.PatternId.{PatternId}
use Rattle.kept_elements.specs.Wanted.{IsPartOf, IsWhole}
use Rattle.kept_elements.specs.Marking.{IsMarked}

-- the pattern of an old number, with the kept elements' new numbers, has this new number
pub record IsRemade (old new : Stored) (kept : List ℕ) (i : ℕ) (id : PatternId) : Type 0 where
  pub within : id.0 < count new
  pub is : tree_at new id.0 ≡ renumbered (new_number kept) (tree_at old i)

-- and it stands in the table
abbrev pub IsListed : Stored → Stored → List ℕ → List PatternId → ℕ → Type 0
IsListed old new kept made i = (id : PatternId) × (slice_get made i ≡ Some id) × IsRemade old new kept i id

-- each part of a pattern that is marked is marked, and its references are to kept elements
pub record IsClosedUnder (pool : Stored) (marks : List Bool) (kept : List ℕ) : Type 0 where
  pub each : length marks ≡ count pool
  pub whole : (i : ℕ) → IsMarked marks i → IsWhole (tree_at pool i)
  pub refs : (i : ℕ) → IsMarked marks i → RefsIn (Contains kept) (tree_at pool i)
  pub parts : (i j : ℕ) → IsMarked marks i → j < count pool → IsPartOf (tree_at pool j) (tree_at pool i) → IsMarked marks j

-- all that is marked is made again
pub record AreRemade (old new : Stored) (kept : List ℕ) (marks : List Bool) (made : List PatternId) : Type 0 where
  pub each : (i : ℕ) → IsMarked marks i → IsListed old new kept made i
  pub refs : AreRefsBelow (length kept) new
