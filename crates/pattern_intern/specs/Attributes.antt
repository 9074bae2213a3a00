-- The search for the name classes of attributes.
use Rattle.std.specs.Prelude.{◌≡◌, ℕ, ◌<◌, ◌⊎◌, ◌↔◌, Bool, List, length, Contains}
use Rattle.rng_model.specs.Classes.{Class}
use Rattle.rng_model.specs.Patterns.{Schema}
use Rattle.rng_model.specs.Inside.{IsAttributeOf}
use Rattle.rng_model.specs.Universe.{IsAttributeClass}
use Rattle.pattern_intern.specs.declared.id.ClassId.{ClassId}
use Rattle.pattern_intern.specs.Stored.{Stored, count, class_at}
use Rattle.pattern_intern.specs.Marks.{InMarked}

-- one of the numbers is that of the class
abbrev pub HasClass : Stored → List ClassId → Class → Type 0
HasClass s ids c = (id : ClassId) × Contains ids id × (c ≡ class_at s id.0)

-- the numbers are those of classes of the pool
pub record AreClasses (s : Stored) (ids : List ClassId) : Type 0 where
  pub each : (id : ClassId) → Contains ids id → id.0 < length s.classes

-- each attribute's class is found, or the attribute stands in a pattern that is reached, of the first n
pub record IsClassSearch (g : Schema) (s : Stored) (reached : List Bool) (ids : List ClassId) (n : ℕ) : Type 0 where
  pub reached_length : length reached ≡ count s
  pub within : AreClasses s ids
  pub each : (c : Class) → (HasClass s ids c ⊎ InMarked (IsAttributeOf c) s reached n) ↔ IsAttributeClass g c
