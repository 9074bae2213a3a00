-- A search for the patterns that are wanted: numbers of patterns that are marked, and those of them whose parts are still to be looked at.
use Rattle.std.specs.Prelude.{◌≡◌, ℕ, ◌+◌, ◌<◌, ◌⊎◌, Bool, true, not, List, [], Option, Some, length, slice_get}
use Rattle.std.specs.List.{count_by}
use Rattle.rng_model.specs.Patterns.{Pattern, ref}
use Rattle.name_classes.specs.declared.class.NameClass.{NameClass}
use Rattle.schema_graph.specs.declared.graph.Graph.{Graph}
use Rattle.pattern_intern.specs.Stored.{Stored, count, tree_at}
use Rattle.pattern_intern.specs.declared.id.PatternId.{PatternId}
use Rattle.pattern_forms.specs.Outcomes.{HasForm}
use Rattle.kept_elements.specs.Wanted.{IsPartOf, HasContent, IsWanted}
use Rattle.kept_elements.specs.declared.search.Search.{Search}

abbrev pub IsMarked : List Bool → ℕ → Type 0
IsMarked marks i = slice_get marks i ≡ Some true

abbrev pub IsStacked : List ℕ → ℕ → Type 0
IsStacked stack i = (k : ℕ) × (slice_get stack k ≡ Some i)

-- how many aren't marked
abbrev pub unmarked : List Bool → ℕ
unmarked marks = count_by not marks

-- the pattern's number is marked
abbrev pub HasMark : Stored → List Bool → Pattern → Type 0
HasMark pool marks p = (i : ℕ) × IsMarked marks i × (tree_at pool i ≡ p)

-- nothing is marked
pub record IsFresh (n : ℕ) (s : Search) : Type 0 where
  pub each : length s.marks.items ≡ n
  pub none : (i : ℕ) → IsMarked s.marks.items i → ⊥
  pub empty : s.stack.items ≡ []

-- some that are allowed are marked and wait
pub record Grown (A : ℕ → Type 0) (old new : Search) : Type 0 where
  pub each : length new.marks.items ≡ length old.marks.items
  pub kept : (i : ℕ) → IsMarked old.marks.items i → IsMarked new.marks.items i
  pub stacked : (i : ℕ) → IsStacked old.stack.items i → IsStacked new.stack.items i
  pub fresh : (i : ℕ) → IsMarked new.marks.items i → IsMarked old.marks.items i ⊎ (A i × IsStacked new.stack.items i)
  pub only : (i : ℕ) → IsStacked new.stack.items i → IsStacked old.stack.items i ⊎ IsMarked new.marks.items i
  pub weight : unmarked new.marks.items + length new.stack.items ≡ unmarked old.marks.items + length old.stack.items

module _ (g : Graph) (pool : Stored) (forms : List (Option PatternId)) where
  -- what the pattern of a number leads to is marked: its parts, and the form of the content of its element
  pub record IsDone (marks : List Bool) (id : ℕ) : Type 0 where
    pub parts : (p : Pattern) → IsPartOf p (tree_at pool id) → HasMark pool marks p
    pub content : (n : ℕ) (d : NameClass) (c : PatternId) → tree_at pool id ≡ ref n → HasContent g forms n d c → IsMarked marks c.0

  abbrev pub IsWantedAt : ℕ → Type 0
  IsWantedAt i = IsWanted g pool forms (tree_at pool i)

  pub record Spread (id : ℕ) (old new : Search) : Type 0 where
    pub grown : Grown IsWantedAt old new
    pub done : IsDone new.marks.items id

  pub record IsSearch (s : Search) : Type 0 where
    pub each : length s.marks.items ≡ count pool
    pub marked : (i : ℕ) → IsStacked s.stack.items i → IsMarked s.marks.items i
    pub sound : (i : ℕ) → IsMarked s.marks.items i → IsWantedAt i
    pub closed : (i : ℕ) → IsMarked s.marks.items i → IsStacked s.stack.items i ⊎ IsDone s.marks.items i
    pub begin : (id : PatternId) → HasForm forms g.root id → IsMarked s.marks.items id.0

  -- exactly the patterns that are wanted are marked
  pub record AreWanted (marks : List Bool) : Type 0 where
    pub each : length marks ≡ count pool
    pub sound : (i : ℕ) → IsMarked marks i → IsWantedAt i
    pub complete : (p : Pattern) → IsWanted g pool forms p → HasMark pool marks p
    pub numbers : (i : ℕ) → i < count pool → IsWantedAt i → IsMarked marks i
