-- The members of many patterns together, and the choice of them all.
use Rattle.std.specs.Prelude.{◌≡◌, ℕ, ◌<◌, ◌⊎◌, Bool, true, false, List, [], ◌∷◌, length, slice_get, Some, fold, nat_eq}
use Rattle.std.specs.List.{IsDistinct}
use Rattle.rng_model.specs.Patterns.{Pattern, not_allowed, choice}
use Rattle.rng_model.specs.Constructors.{members, of_members, choice_of}
use Rattle.pattern_intern.specs.Stored.{Stored, tree_at}
use Rattle.pattern_intern.specs.Members.{AreIn, AreMembers, trees_at}
use Rattle.pattern_intern.specs.declared.id.PatternId.{PatternId}

-- the choice of patterns, one after the other; notAllowed for none
abbrev pub choice_of_each : List Pattern → Pattern
choice_of_each [] = not_allowed
choice_of_each (p ∷ ps) = fold choice_of p ps

abbrev pub Has : {X : Type 0} → List X → X → Type 0
Has [] x = ⊥
Has (y ∷ ys) x = (y ≡ x) ⊎ Has ys x

-- x is a member of one of the patterns
abbrev pub HasMember : List Pattern → Pattern → Type 0
HasMember [] x = ⊥
HasMember (p ∷ ps) x = Has (members p) x ⊎ HasMember ps x

-- neither a choice nor notAllowed
abbrev pub is_member : Pattern → Bool
is_member not_allowed = false
is_member (choice p q) = false
is_member p = true

abbrev pub same_number : PatternId → PatternId → Bool
same_number a b = nat_eq a.0 b.0

-- the pattern has no members, or its first one and a pattern of the others are among the numbers
abbrev pub IsSpread : Stored → List PatternId → Pattern → Type 0
IsSpread s found p = (members p ≡ []) ⊎ ((first : PatternId) × (others : PatternId) × Has found first × Has found others × (members p ≡ tree_at s first.0 ∷ members (tree_at s others.0)))

-- what stands in patterns, of which the first k are spread
pub record IsGathering (s : Stored) (patterns : List PatternId) (k : ℕ) (found : List PatternId) : Type 0 where
  pub within : AreIn s found
  pub distinct : IsDistinct same_number found
  pub begun : (id : PatternId) → Has patterns id → Has found id
  pub spread : (j : ℕ) (id : PatternId) → j < k → slice_get found j ≡ Some id → IsSpread s found (tree_at s id.0)
  pub only : (id : PatternId) → Has found id → (x : Pattern) → Has (members (tree_at s id.0)) x → HasMember (trees_at s patterns) x

-- all that stands in patterns
abbrev pub IsGathered : Stored → List PatternId → List PatternId → Type 0
IsGathered s patterns found = IsGathering s patterns (length found) found

-- the first k patterns are found, and nothing else
pub record IsBegun (patterns : List PatternId) (k : ℕ) (found : List PatternId) : Type 0 where
  pub distinct : IsDistinct same_number found
  pub begun : (j : ℕ) (id : PatternId) → j < k → slice_get patterns j ≡ Some id → Has found id
  pub only : (id : PatternId) → Has found id → Has patterns id

-- the members of the patterns in ascending order, each once
pub record AreAllMembers (s : Stored) (patterns taken : List PatternId) : Type 0 where
  pub within : AreIn s taken
  pub list : AreMembers (trees_at s taken)
  pub chosen : of_members (trees_at s taken) ≡ choice_of_each (trees_at s patterns)
