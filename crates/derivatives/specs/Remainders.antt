-- The remainders of patterns by numbers, and sets of them that are kept.
use Rattle.std.specs.Prelude.{◌≡◌, ◌<◌, ◌≤◌, ◌↔◌, ◌⊎◌, ℕ, List, ◌++◌, Option, Some, All, Contains, length, map, option_map, slice_range}
use Rattle.std.specs.Map.{lookup}
use Rattle.table_laws.specs.Remainders as law
use Rattle.table_laws.specs.Remainders.{AreSame, remainders}
use Rattle.pattern_intern.specs.Gathered.{same_number}
use Rattle.pattern_intern.specs.Schemas.{Numbered}
use Rattle.pattern_intern.specs.Stored.{Stored, Extends, count, tree_at}
use Rattle.pattern_intern.specs.declared.id.PatternId.{PatternId}
use Rattle.derivatives.specs.declared.remainder.Remainder.{Remainder}
use Rattle.derivatives.specs.declared.remainder_sets.Span.{Span}

-- the remainder with the pattern of its number
abbrev pub remainder_of : Stored → Remainder → law.Remainder
remainder_of s x = record { number = x.definition; rest = tree_at s x.rest.0 }

abbrev pub remainders_of : Stored → List Remainder → List law.Remainder
remainders_of s xs = map (remainder_of s) xs

-- a definition of the schema, and a number of its pool
abbrev pub IsWithin : Numbered → Remainder → Type 0
IsWithin g x = (x.definition < length g.schema.elements) × (x.rest.0 < count g.pool)

-- these are added
abbrev pub AreAdded : List Remainder → List Remainder → List Remainder → Type 0
AreAdded xs old new = (x : Remainder) → Contains new x ↔ (Contains old x ⊎ Contains xs x)

-- the numbers stand for the remainders
pub record AreRemainders (g : Numbered) (rs : List law.Remainder) (xs : List Remainder) : Type 0 where
  pub within : All (IsWithin g) xs
  pub same : AreSame (remainders_of g.pool xs) rs

-- Whatever the first numbers stood for, these remainders have been added since.
abbrev pub Gathers : Numbered → Numbered → List Remainder → List law.Remainder → List Remainder → Type 0
Gathers old now begun rs made = (before : List law.Remainder) → AreRemainders old before begun → AreRemainders now (before ++ rs) made

-- The remainders of the first members of a choice have been added; those of the rest are left.
pub record AreBegun (old now : Numbered) (id rest : ℕ) (begun made : List Remainder) : Type 0 where
  pub kept : Extends old.pool now.pool
  pub schema : now.schema ≡ old.schema
  pub below : rest < id
  pub done : List law.Remainder
  pub gathers : Gathers old now begun done made
  pub whole : remainders (tree_at old.pool id) ≡ done ++ remainders (tree_at old.pool rest)

-- the remainders of all sets, one set behind the other, and by number where its set stands among them
pub record KeptSets : Type 0 where
  pub whole : List Remainder
  pub spans : List (PatternId × Span)

abbrev pub kept_sets : List Remainder → List (PatternId × Span) → KeptSets
kept_sets xs spans = record { whole = xs; spans = spans }

abbrev pub between : List Remainder → Span → List Remainder
between xs s = slice_range xs s.start s.end

-- what is kept for a number
abbrev pub set_of : KeptSets → PatternId → Option (List Remainder)
set_of sets id = option_map (between sets.whole) (lookup (same_number id) sets.spans)

-- each set stands among them
pub record AreInside (sets : KeptSets) : Type 0 where
  pub each : (id : PatternId) (s : Span) → lookup (same_number id) sets.spans ≡ Some s → (s.start ≤ s.end) × (s.end ≤ length sets.whole)

-- the set has the remainders of the number's pattern
pub record IsSetOf (g : Numbered) (id : PatternId) (xs : List Remainder) : Type 0 where
  pub number : id.0 < count g.pool
  pub pairs : AreRemainders g (remainders (tree_at g.pool id.0)) xs

-- each set is that of its number
pub record AreSets (g : Numbered) (sets : KeptSets) : Type 0 where
  pub each : (id : PatternId) (xs : List Remainder) → set_of sets id ≡ Some xs → IsSetOf g id xs
