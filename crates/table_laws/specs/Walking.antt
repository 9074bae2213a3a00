-- The walk through the lists of codes of one size, and through its skeletons: this project's own.
use Rattle.std.specs.Prelude.{◌≡◌, ◌≢◌, ◌↔◌, ℕ, List, [], ◌∷◌, ◌++◌, IsTrue, Contains}
use Rattle.std.specs.List.Sorted.{IsStrictlySortedBy}
use Rattle.std.specs.List.{AllByRecursion}
use Rattle.std.specs.declared.cmp.Ordering.{Ordering}
use Rattle.std.specs.declared.cmp.Ordering.TheVariants.{Less}
use Rattle.std.specs.Cmp.Lexicographic.{slice_cmp}
use Rattle.rng_model.specs.Patterns.{Schema}
use Rattle.rng_model.specs.Hedges.{Skeleton, size}
use Rattle.rng_model.specs.Events.{skeleton_cmp}
use Rattle.rng_model.specs.Universe.{Lists}
use Rattle.rng_model.specs.Matching.{nullable}
use Rattle.rng_model.specs.Listing.{IsListed}
use Rattle.rng_model.specs.Codes.{Code, nodes, IsInRange, code_cmp}
use Rattle.rng_model.specs.States.{after_codes}

-- lists of codes compare by the first code in which they differ
abbrev pub codes_cmp : List Code → List Code → Ordering
codes_cmp = slice_cmp code_cmp

module _ (L : List Code → Type 0) where
  -- a list of L begins with the front and goes on with the code
  pub record GoesOn (front : List Code) (c : Code) : Type 0 where
    pub rest : List Code
    pub listed : L (front ++ (c ∷ rest))

  -- the least code with which one goes on so
  pub record IsFirstCode (front : List Code) (c : Code) : Type 0 where
    pub goes : GoesOn front c
    pub first : (d : Code) → GoesOn front d → code_cmp d c ≢ Less

  -- the least one above b
  pub record IsNextCode (front : List Code) (b c : Code) : Type 0 where
    pub goes : GoesOn front c
    pub above : code_cmp b c ≡ Less
    pub first : (d : Code) → GoesOn front d → code_cmp b d ≡ Less → code_cmp d c ≢ Less

  -- the least rest with which one goes on from the front
  pub record IsLeastRest (front rest : List Code) : Type 0 where
    pub listed : L (front ++ rest)
    pub least : (other : List Code) → L (front ++ other) → codes_cmp other rest ≢ Less

  -- none goes on from the front with more than the rest
  abbrev pub NothingAbove : List Code → List Code → Type 0
  NothingAbove front rest = (other : List Code) → L (front ++ other) → codes_cmp rest other ≢ Less

  -- the least list of L above the codes
  pub record IsNextList (codes next : List Code) : Type 0 where
    pub listed : L next
    pub above : codes_cmp codes next ≡ Less
    pub first : (other : List Code) → L other → codes_cmp codes other ≡ Less → codes_cmp other next ≢ Less

-- codes in range with n nodes that lead to a state that accepts: those of the listed skeletons of size n
pub record AreListedCodes (g : Schema) (u : Lists) (n : ℕ) (codes : List Code) : Type 0 where
  pub in_range : AllByRecursion (IsInRange u) codes
  pub exact : nodes codes ≡ n
  pub accepts : IsTrue (nullable (after_codes g u codes).pattern)

module _ (g : Schema) (u : Lists) (n : ℕ) where
  -- listed, and of size n
  pub record IsOfSize (s : Skeleton) : Type 0 where
    pub listed : IsListed g u n s
    pub exact : size s ≡ n

  -- the first one of the size
  pub record IsFirst (t : Skeleton) : Type 0 where
    pub listed : IsOfSize t
    pub least : (r : Skeleton) → IsOfSize r → skeleton_cmp r t ≢ Less

  -- t is the next one of the size after s
  pub record IsNext (s t : Skeleton) : Type 0 where
    pub listed : IsOfSize t
    pub above : skeleton_cmp s t ≡ Less
    pub first : (r : Skeleton) → IsOfSize r → skeleton_cmp s r ≡ Less → skeleton_cmp r t ≢ Less

  -- each one after s is the next one, and none follows the last
  abbrev pub GoesThrough : Skeleton → List Skeleton → Type 0
  GoesThrough s [] = (r : Skeleton) → IsOfSize r → skeleton_cmp s r ≢ Less
  GoesThrough s (t ∷ ts) = IsNext s t × GoesThrough t ts

  -- from the first one of the size to the last, where there is one
  abbrev pub IsWalk : List Skeleton → Type 0
  IsWalk [] = (r : Skeleton) → IsOfSize r → ⊥
  IsWalk (s ∷ ss) = IsFirst s × GoesThrough s ss

  -- the ones of the size, ascending and each once
  pub record AreOfSize (list : List Skeleton) : Type 0 where
    pub ascending : IsStrictlySortedBy skeleton_cmp list
    pub each : (s : Skeleton) → Contains list s ↔ IsOfSize s
