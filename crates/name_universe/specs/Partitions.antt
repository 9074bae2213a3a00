-- The names of a list in blocks, which classes split one after another: those of one block are in the same classes.
use Rattle.std.specs.Prelude.{◌≡◌, ℕ, ◌+◌, ◌<◌, ◌⊎◌, ◌↔◌, Bool, List, Some, length, slice_get}
use Rattle.rng_model.specs.Names.{Name}
use Rattle.rng_model.specs.Classes.{Class, in_class}
use Rattle.rng_model.specs.Alike.{AreAlikeNames}
use Rattle.name_universe.specs.declared.split.Split.{Split}

-- no value stands twice
abbrev pub AreDistinct : {X : Type 0} → List X → Type 0
AreDistinct {X} xs = (i j : ℕ) (x : X) → slice_get xs i ≡ Some x → slice_get xs j ≡ Some x → i ≡ j

-- b is the number of the block that was split off so: its place, counted from 1
abbrev pub IsBlockOf : List Split → Split → ℕ → Type 0
IsBlockOf splits s b = (k : ℕ) × (slice_get splits k ≡ Some s) × (b ≡ k + 1)

-- The class of this number splits off the positions of which S holds, each from its block, and the others stay.
pub record AreSplit (S : ℕ → Type 0) (class : ℕ) (was : List ℕ) (now : List ℕ) (had : List Split) (has : List Split) : Type 0 where
  pub same_length : length now ≡ length was
  pub distinct : AreDistinct had → AreDistinct has
  pub kept : (k : ℕ) (s : Split) → slice_get had k ≡ Some s → slice_get has k ≡ Some s
  pub added : (k : ℕ) (s : Split) → slice_get has k ≡ Some s → (slice_get had k ≡ Some s) ⊎ (s.class ≡ class)
  pub inside : (i b : ℕ) → slice_get was i ≡ Some b → S i → (c : ℕ) × (slice_get now i ≡ Some c) × IsBlockOf has (record { block = b; class = class }) c
  pub outside : (i b : ℕ) → slice_get was i ≡ Some b → (S i → ⊥) → slice_get now i ≡ Some b

-- the name at the position is in the class, or isn't where `side` is false
abbrev pub IsOnSide : List Name → Class → Bool → ℕ → Type 0
IsOnSide names c side i = (n : Name) × (slice_get names i ≡ Some n) × (in_class n c ≡ side)

-- the class of this number tells the names on its one side from those on its other
pub record IsSplitBy (names : List Name) (c : Class) (class : ℕ) (was : List ℕ) (now : List ℕ) (had : List Split) (has : List Split) : Type 0 where
  pub side : Bool
  pub are : AreSplit (IsOnSide names c side) class was now had has

-- the blocks of the names by the classes that C holds of, whose numbers are less than the next
pub record IsPartition (C : Class → Type 0) (names : List Name) (next : ℕ) (blocks : List ℕ) (splits : List Split) : Type 0 where
  pub same_length : length blocks ≡ length names
  pub known : (i b : ℕ) → slice_get blocks i ≡ Some b → (b ≡ 0) ⊎ ((s : Split) × IsBlockOf splits s b)
  pub earlier : (k : ℕ) (s : Split) → slice_get splits k ≡ Some s → s.class < next
  pub distinct : AreDistinct splits
  pub tells : (i j : ℕ) (m n : Name) → slice_get names i ≡ Some m → slice_get names j ≡ Some n → (slice_get blocks i ≡ slice_get blocks j) ↔ AreAlikeNames C m n
