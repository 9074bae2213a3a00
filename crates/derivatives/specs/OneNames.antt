-- Definitions whose class is one name, and where it stands in the universe.
use Rattle.std.specs.Prelude.{◌≡◌, ◌==◌, ℕ, List, Option, Some, slice_get}
use Rattle.rng_model.specs.Names.{Name}
use Rattle.rng_model.specs.Classes.{Class, in_class}
use Rattle.pattern_intern.specs.Schemas.{Numbered, definition_at}

-- of the names, the class has the one at this position
abbrev pub IsOne : List Name → Class → ℕ → Type 0
IsOne names c p = (i : ℕ) (n : Name) → slice_get names i ≡ Some n → in_class n c ≡ (i == p)

-- each position that is found is that of the one name of the definition's class
pub record AreOne (g : Numbered) (names : List Name) (found : List (Option ℕ)) : Type 0 where
  pub each : (k p : ℕ) → slice_get found k ≡ Some (Some p) → IsOne names (definition_at g k).class p

-- the positions tell whether the classes have the name at a position
pub record Tell (g : Numbered) (n : Name) (i : ℕ) (found : List (Option ℕ)) : Type 0 where
  pub each : (k p : ℕ) → slice_get found k ≡ Some (Some p) → in_class n (definition_at g k).class ≡ (i == p)
