-- Where two attributes of one element have one representative: this project's own.
use Rattle.std.specs.Prelude.{◌≡◌, ℕ, zero, suc, ◌+◌, ◌<◌, ◌⊎◌, List, [], ◌∷◌}
use Rattle.rng_model.specs.Names.{Name}
use Rattle.rng_model.specs.Patterns.{Schema}
use Rattle.rng_model.specs.Hedges.{Skeleton}
use Rattle.rng_model.specs.Events.{Event, Attr, events}
use Rattle.rng_model.specs.Universe.{NameStandsFor, IsAttributeClass}

-- an attribute of the name n has one representative with an attribute of one of the names
abbrev pub MeetsOne : Schema → Name → List Name → Type 0
MeetsOne g n [] = ⊥
MeetsOne g n (k ∷ names) =
    ((m : Name) × NameStandsFor (IsAttributeClass g) k m × NameStandsFor (IsAttributeClass g) n m) ⊎ MeetsOne g n names

-- The event i, from 0, is an attribute that has one representative with an earlier attribute of its element. Attributes of
-- the names come before these events in the same element.
abbrev pub MeetsAt : Schema → List Name → List Event → ℕ → Type 0
MeetsAt g names [] i = ⊥
MeetsAt g names (Attr n t ∷ es) zero = MeetsOne g n names
MeetsAt g names (Attr n t ∷ es) (suc i) = MeetsAt g (n ∷ names) es i
MeetsAt g names (e ∷ es) zero = ⊥
MeetsAt g names (e ∷ es) (suc i) = MeetsAt g [] es i

-- the line, from 1, of the first such attribute in the text of the document
pub record MeetsFirst (g : Schema) (d : Skeleton) (line : ℕ) : Type 0 where
  pub event : ℕ
  pub is : line ≡ event + 1
  pub meets : MeetsAt g [] (events d) event
  pub first : (i : ℕ) → i < event → MeetsAt g [] (events d) i → ⊥
