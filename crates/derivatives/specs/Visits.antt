-- Numbers that were looked into in vain.
use Rattle.std.specs.Prelude.{◌≡◌, ◌<◌, Bool, true, false, List}
use Rattle.std.specs.List.{list_any}
use Rattle.rng_model.specs.Patterns.{Pattern}
use Rattle.pattern_intern.specs.Gathered.{same_number}
use Rattle.pattern_intern.specs.Stored.{Stored, count, tree_at}
use Rattle.pattern_intern.specs.declared.id.PatternId.{PatternId}

-- the number is among them
abbrev pub is_noted : List PatternId → PatternId → Bool
is_noted ids id = list_any (same_number id) ids

-- each is of the pool, and the test fails at its pattern
pub record AreBare (test : Pattern → Bool) (s : Stored) (ids : List PatternId) : Type 0 where
  pub each : (id : PatternId) → is_noted ids id ≡ true → (id.0 < count s) × (test (tree_at s id.0) ≡ false)
