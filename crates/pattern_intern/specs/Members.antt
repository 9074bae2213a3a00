-- The members of a choice while they are merged.
use Rattle.std.specs.Prelude.{◌≡◌, ℕ, ◌+◌, ◌<◌, List, ◌∷◌, ◌++◌, length, map}
use Rattle.std.specs.List.{AllByRecursion}
use Rattle.rng_model.specs.Patterns.{Pattern}
use Rattle.rng_model.specs.Constructors.{members, choice_of}
use Rattle.pattern_intern.specs.Ordered.{IsMember, Ascends}
use Rattle.pattern_intern.specs.Stored.{Stored, count, tree_at}
use Rattle.pattern_intern.specs.declared.id.PatternId.{PatternId}

abbrev pub trees_at : Stored → List PatternId → List Pattern
trees_at s ids = map (λ id. tree_at s id.0) ids

-- numbers of the pool
pub record AreIn (s : Stored) (ids : List PatternId) : Type 0 where
  pub each : AllByRecursion (λ id. id.0 < count s) ids

-- an ascending list of members
pub record AreMembers (ps : List Pattern) : Type 0 where
  pub ascending : Ascends ps
  pub each : AllByRecursion IsMember ps

-- how many members two patterns have
abbrev pub member_count : Stored → ℕ → ℕ → ℕ
member_count s a b = length (members (tree_at s a)) + length (members (tree_at s b))

-- the least member of two patterns, and the patterns without it
pub record IsLeast (s : Stored) (a b first a' b' : ℕ) : Type 0 where
  pub first_in : first < count s
  pub left_in : a' < count s
  pub right_in : b' < count s
  pub list : members (choice_of (tree_at s a) (tree_at s b)) ≡ tree_at s first ∷ members (choice_of (tree_at s a') (tree_at s b'))
  pub fewer : member_count s a' b' < member_count s a b

-- the least members, and a pattern of the others
pub record IsMerged (s : Stored) (p q : Pattern) (taken : List PatternId) (rest : ℕ) : Type 0 where
  pub within : AreIn s taken
  pub rest_in : rest < count s
  pub list : members (choice_of p q) ≡ trees_at s taken ++ members (tree_at s rest)
  pub members : AreMembers (trees_at s taken ++ members (tree_at s rest))
