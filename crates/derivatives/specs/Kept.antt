-- Results of a function of patterns that are kept by number.
use Rattle.std.specs.Prelude.{◌≡◌, ◌<◌, List, Option, Some}
use Rattle.std.specs.Map.{lookup}
use Rattle.rng_model.specs.Patterns.{Pattern}
use Rattle.pattern_intern.specs.Gathered.{same_number}
use Rattle.pattern_intern.specs.Stored.{Stored, count, tree_at}
use Rattle.pattern_intern.specs.declared.id.PatternId.{PatternId}

abbrev pub Kept : Type 0
Kept = List (PatternId × PatternId)

-- the result that is kept for a number
abbrev pub result_of : Kept → PatternId → Option PatternId
result_of kept id = lookup (same_number id) kept

-- the second number stands for the function's result of the first
pub record IsRight (f : Pattern → Pattern) (s : Stored) (id result : PatternId) : Type 0 where
  pub number : id.0 < count s
  pub within : result.0 < count s
  pub tree : tree_at s result.0 ≡ f (tree_at s id.0)

-- each result that is kept is right
pub record AreRight (f : Pattern → Pattern) (s : Stored) (kept : Kept) : Type 0 where
  pub each : (id result : PatternId) → result_of kept id ≡ Some result → IsRight f s id result
