-- Sets of names of a list, as the bits of a word.
use Rattle.std.specs.Prelude.{◌≡◌, ◌≢◌, ℕ, ◌<◌, ◌≤◌, ◌==◌, Bool, true, false, List, Some, length, slice_get}
use Rattle.std.specs.Int.{bit_at}
use Rattle.std.specs.List.Sorted.{IsStrictlySortedBy}
use Rattle.std.specs.Str.{bytes_eq}
use Rattle.rng_model.specs.Texts.{Text}
use Rattle.rng_model.specs.Names.{Name, name_cmp, same_name}
use Rattle.rng_model.specs.Classes.{Class}
use Rattle.name_classes.specs.Parts.{in_parts}
use Rattle.name_classes.specs.declared.part.Part.{Part}
use Rattle.name_classes.specs.declared.part.Part.TheVariants.{Any, Namespace, One, Choice}
use Rattle.restrictions.specs.declared.name_set.NameSet.{NameSet}

-- whether the name at a position of the list is in the set
abbrev pub has : NameSet → ℕ → Bool
has s k = bit_at s.bits k == 1

-- a list whose names there are sets of: ascending names, each once, at least one and at most 64
pub record IsWindow (names : List Name) : Type 0 where
  pub some : 0 < length names
  pub few : length names ≤ 64
  pub ascending : IsStrictlySortedBy name_cmp names

-- the set has of the names of the list those of which f is true
pub record IsSetOf (names : List Name) (f : Name → Bool) (s : NameSet) : Type 0 where
  pub each : (k : ℕ) (n : Name) → slice_get names k ≡ Some n → has s k ≡ f n

-- whether the name is in the part of a class, whatever follows
abbrev pub in_part : Name → Part → Bool
in_part n (Any e) = true
in_part n (Namespace u e) = bytes_eq n.ns u
in_part n (One m) = same_name n m
in_part n Choice = false

-- whether it is in the class, from its parts
abbrev pub taken_by : Class → Name → Bool
taken_by c n = in_parts (in_part n) c

-- the position alone where its name is one of the namespace
pub record IsOfSpace (names : List Name) (u : Text) (position : ℕ) (s : NameSet) : Type 0 where
  pub itself : (n : Name) → slice_get names position ≡ Some n → has s position ≡ bytes_eq n.ns u
  pub others : (k : ℕ) → k ≢ position → has s k ≡ false
