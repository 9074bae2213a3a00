-- A choice as its members, and the choice of the results that a function has of them, from the last to the first.
use Rattle.std.specs.Prelude.{◌≡◌, ℕ, ◌<◌, List, [], ◌∷◌}
use Rattle.std.specs.List.{AllByRecursion}
use Rattle.rng_model.specs.Patterns.{Pattern, choice}
use Rattle.rng_model.specs.Constructors.{choice_of}
use Rattle.pattern_intern.specs.Stored.{Stored, Extends, count, tree_at}
use Rattle.pattern_intern.specs.declared.id.PatternId.{PatternId}

-- the first members, before the last pattern
abbrev pub spine_tree : Stored → List PatternId → Pattern → Pattern
spine_tree s [] p = p
spine_tree s (id ∷ ids) p = choice (tree_at s id.0) (spine_tree s ids p)

-- the function's results of the members, before a result of what follows
abbrev pub spine_result : (Pattern → Pattern) → Stored → List PatternId → Pattern → Pattern
spine_result f s [] p = p
spine_result f s (id ∷ ids) p = choice_of (f (tree_at s id.0)) (spine_result f s ids p)

abbrev pub AreBelow : ℕ → List PatternId → Type 0
AreBelow n ids = AllByRecursion (λ id. id.0 < n) ids

-- the pattern of the number is the choice of these members and the last, which have smaller numbers
pub record IsSpine (s : Stored) (id : ℕ) (firsts : List PatternId) (last : PatternId) : Type 0 where
  pub below : AreBelow id firsts
  pub last_below : last.0 < id
  pub tree : tree_at s id ≡ spine_tree s firsts (tree_at s last.0)

-- a function that maps a choice to the choice of its members' results
pub record IsChoicewise (f : Pattern → Pattern) : Type 0 where
  pub choices : (p q : Pattern) → f (choice p q) ≡ choice_of (f p) (f q)

-- The results of the last members are joined; with those of the first ones, which are left, this is the result of the whole.
pub record IsJoined (f : Pattern → Pattern) (old : Stored) (id : ℕ) (left : List PatternId) (made : PatternId) (now : Stored) : Type 0 where
  pub kept : Extends old now
  pub below : AreBelow id left
  pub within : made.0 < count now
  pub tree : spine_result f old left (tree_at now made.0) ≡ f (tree_at old id)
