-- What codes may still follow a state until a skeleton is whole: this project's own.
use Rattle.std.specs.Prelude.{◌≡◌, ℕ, Bool, suc, ◌+◌, ◌⊎◌, ◌↔◌, List, ◌++◌, IsTrue}
use Rattle.std.specs.List.{AllByRecursion}
use Rattle.rng_model.specs.Patterns.{Schema}
use Rattle.rng_model.specs.Hedges.{Skeleton, IsSkeleton, document, size}
use Rattle.rng_model.specs.Events.{Event, events}
use Rattle.rng_model.specs.Universe.{Lists}
use Rattle.rng_model.specs.Matching.{nullable, MatchesDocument}
use Rattle.rng_model.specs.Listing.{IsOver, IsListed}
use Rattle.rng_model.specs.Codes.{AreCodes, Code, nodes, IsInRange}
use Rattle.rng_model.specs.States.{State, step, steps}
use Rattle.table_laws.specs.Reaching.{weight, free_code, Leads}

-- the marks of states for the nodes that are left, as a table keeps them
abbrev pub is_marked : (ℕ → State → Bool) → ℕ → State → Type 0
is_marked mark rest s = IsTrue (mark rest s)

module _ (g : Schema) (u : Lists) where
  -- some codes with so many nodes lead from the state to one that accepts
  pub record Finish (rest : ℕ) (s : State) : Type 0 where
    pub codes : List Code
    pub in_range : AllByRecursion (IsInRange u) codes
    pub exact : nodes codes ≡ rest
    pub accepts : IsTrue (nullable (steps g u s codes).pattern)

  -- a code with a node leads from the state to one that has the mark with one node less
  pub record MarkedNode (mark : ℕ → State → Type 0) (rest : ℕ) (s : State) : Type 0 where
    pub code : Code
    pub heavy : weight code ≡ 1
    pub left : ℕ
    pub is : rest ≡ suc left
    pub leads : Leads g u s code
    pub marked : mark left (step g u s code)

  -- the mark of a state by those of the states that follow: the state accepts and no node is left, or a code leads to a marked one
  abbrev pub Marked : (ℕ → State → Type 0) → ℕ → State → Type 0
  Marked mark rest s =
      ((rest ≡ 0) × IsTrue (nullable s.pattern))
      ⊎ (Leads g u s (free_code s.place) × mark rest (step g u s (free_code s.place)))
      ⊎ MarkedNode mark rest s

  -- the mark says whether the state can finish
  abbrev pub IsExact : (ℕ → State → Type 0) → ℕ → State → Type 0
  IsExact mark rest s = mark rest s ↔ Finish rest s

  -- the code leads from the state to one that can finish with the nodes that are left after it
  pub record CanTake (rest : ℕ) (s : State) (c : Code) : Type 0 where
    pub leads : Leads g u s c
    pub left : ℕ
    pub is : rest ≡ weight c + left
    pub finishes : Finish left (step g u s c)

  -- the codes begin those of a skeleton over the lists that has the size and matches
  pub record BeginsSkeleton (front : List Code) (n : ℕ) : Type 0 where
    pub skeleton : Skeleton
    pub is : IsSkeleton skeleton
    pub over : IsOver u (document skeleton)
    pub exact : size skeleton ≡ n
    pub matches : MatchesDocument g skeleton
    pub back : List Code
    pub codes : AreCodes u (events skeleton) (front ++ back)

  -- the events begin those of a listed skeleton of the size
  pub record BeginsListed (n : ℕ) (front : List Event) : Type 0 where
    pub skeleton : Skeleton
    pub listed : IsListed g u n skeleton
    pub exact : size skeleton ≡ n
    pub back : List Event
    pub is : events skeleton ≡ front ++ back
