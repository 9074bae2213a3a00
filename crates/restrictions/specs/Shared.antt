-- Names that both sides of a group or interleave have, as truth values.
use Rattle.std.specs.Prelude.{◌≡◌, ℕ, ◌<◌, ◌⊎◌, ◌↔◌, Bool, true, false, ◌&&◌, List, Option, Some, None, length, slice_get}
use Rattle.rng_model.specs.Names.{Name}
use Rattle.rng_model.specs.Classes.{in_class}
use Rattle.rng_model.specs.Patterns.{Pattern, Schema, Definition, Defines, ref, attribute, group, interleave}
use Rattle.pattern_intern.specs.Stored.{Stored, tree_at}
use Rattle.restrictions.specs.NameSets.{IsSetOf, has}
use Rattle.restrictions.specs.Truths.{within}
use Rattle.restrictions.specs.declared.name_set.NameSet.{NameSet}
use Rattle.restrictions.specs.declared.shared.Sought.{Sought}
use Rattle.restrictions.specs.declared.shared.Sought.TheVariants.{Attributes, Elements}
use Rattle.restrictions.specs.declared.standing.Standing.{Standing}

abbrev pub in_definition : Name → Option Definition → Bool
in_definition n (Some e) = in_class n e.class
in_definition n None = false

-- the pattern is an attribute that can have the name, or refers to an element that can
abbrev pub named : Schema → Sought → Name → Pattern → Bool
named g Attributes n (attribute c p) = in_class n c
named g Elements n (ref d) = in_definition n (slice_get g.elements d)
named g k n _ = false

-- whether names may not be in both sides of a group
abbrev pub meet_in_groups : Sought → Bool
meet_in_groups Attributes = true
meet_in_groups Elements = false

-- the name is in both sides of an interleave, or in those of a group
abbrev pub shared : Schema → Sought → Name → Pattern → Bool
shared g k n (group p q) = meet_in_groups k && (within (named g k n) p && within (named g k n) q)
shared g k n (interleave p q) = within (named g k n) p && within (named g k n) q
shared g k n _ = false

-- the names that stand in the pattern, and those in both sides of a group or interleave inside it
pub record IsStanding (g : Schema) (k : Sought) (names : List Name) (p : Pattern) (x : Standing) : Type 0 where
  pub stands : IsSetOf names (λ n. within (named g k n) p) x.stands
  pub meets : IsSetOf names (λ n. within (shared g k n) p) x.meets

-- the first m numbers of a pool are searched for the names
pub record AreStanding (g : Schema) (k : Sought) (names : List Name) (s : Stored) (m : ℕ) (xs : List Standing) : Type 0 where
  pub same_length : length xs ≡ m
  pub each : (i : ℕ) (x : Standing) → slice_get xs i ≡ Some x → IsStanding g k names (tree_at s i) x

-- the name is shared in the start or in one of the first m contents
abbrev pub IsSharedBelow : Schema → Sought → ℕ → Name → Type 0
IsSharedBelow g k m n =
    (within (shared g k n) g.start ≡ true)
    ⊎ ((d : ℕ) × (e : Definition) × (d < m) × Defines g d e × (within (shared g k n) e.content ≡ true))

-- the set has of the names those that are
pub record AreMet (g : Schema) (k : Sought) (names : List Name) (m : ℕ) (s : NameSet) : Type 0 where
  pub each : (j : ℕ) (n : Name) → slice_get names j ≡ Some n → (has s j ≡ true) ↔ IsSharedBelow g k m n

-- the name is shared in the start or in a content
abbrev pub IsShared : Schema → Sought → Name → Type 0
IsShared g k n =
    (within (shared g k n) g.start ≡ true)
    ⊎ ((d : ℕ) × (e : Definition) × Defines g d e × (within (shared g k n) e.content ≡ true))
