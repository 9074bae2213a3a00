-- What a listing is to write: this project's own.
use Rattle.std.specs.Prelude.{◌≡◌, ℕ, ◌<◌, ◌≤◌, ◌⊎◌, ◌↔◌, ⊤, List, length, Option, Some, None, Contains}
use Rattle.std.specs.declared.cmp.Ordering.TheVariants.{Less}
use Rattle.std.specs.List.Sorted.{IsStrictlySortedBy}
use Rattle.rng_model.specs.Patterns.{Schema}
use Rattle.rng_model.specs.Hedges.{Skeleton, size}
use Rattle.rng_model.specs.Events.{skeleton_cmp}
use Rattle.rng_model.specs.Universe.{Lists}
use Rattle.rng_model.specs.Listing.{IsListed}
use Rattle.rng_model.specs.States.{ReachesMore}

-- What is asked for: the documents of a schema over its names and texts, with at most so many nodes, after the cursor if there is one, as
-- long as no more states are reached than the limit.
pub record Asked : Type 0 where
  pub schema : Schema
  pub lists : Lists
  pub size : ℕ
  pub after : Option Skeleton
  pub limit : ℕ

-- the size at which a listing begins: the cursor's, or 1
abbrev pub first_size : Option Skeleton → ℕ
first_size None = 1
first_size (Some c) = size c

abbrev pub Follows : Option Skeleton → Skeleton → Type 0
Follows None s = ⊤
Follows (Some c) s = skeleton_cmp c s ≡ Less

module _ (a : Asked) where
  -- more states than the limit are reached with m nodes
  abbrev pub IsOver : ℕ → Type 0
  IsOver m = ReachesMore a.schema a.lists m a.limit

  -- the least size from the first on where that is so
  pub record IsStop (m : ℕ) : Type 0 where
    pub from : first_size a.after ≤ m
    pub to : m ≤ a.size
    pub more : IsOver m
    pub first : (k : ℕ) → first_size a.after ≤ k → k < m → IsOver k → ⊥

  -- the document is to be written: it is listed, follows the cursor, and is smaller than the size at which the listing stops
  pub record IsPending (s : Skeleton) : Type 0 where
    pub listed : IsListed a.schema a.lists a.size s
    pub follows : Follows a.after s
    pub before : (m : ℕ) → IsStop m → size s < m

  -- all documents that are to be written, in order and each once
  pub record AreAll (queue : List Skeleton) : Type 0 where
    pub ascending : IsStrictlySortedBy skeleton_cmp queue
    pub each : (s : Skeleton) → Contains queue s ↔ IsPending s

  -- the first k of them
  pub record AreFirst (k : ℕ) (front : List Skeleton) : Type 0 where
    pub many : length front ≡ k
    pub ascending : IsStrictlySortedBy skeleton_cmp front
    pub pending : (s : Skeleton) → Contains front s → IsPending s
    pub least : (s t : Skeleton) → IsPending s → Contains front t → Contains front s ⊎ (skeleton_cmp t s ≡ Less)

-- the documents don't fill the page, if there is a page limit
abbrev pub IsShort : List Skeleton → Option ℕ → Type 0
IsShort queue None = ⊤
IsShort queue (Some k) = length queue < k

-- how a listing ends: the page is full, too many states are reached at a size, or all is written
pub data Ending : Type 0 where
  full : Ending
  stopped : (m : ℕ) → Ending
  whole : Ending

-- with a page limit, how the listing ends and which documents are written
pub data Ends (a : Asked) (page : Option ℕ) : Ending → List Skeleton → Type 0 where
  full : {k : ℕ} {front : List Skeleton} → page ≡ Some k → AreFirst a k front → Ends a page Ending.full front
  stopped : {m : ℕ} {queue : List Skeleton} → IsStop a m → AreAll a queue → IsShort queue page → Ends a page (Ending.stopped m) queue
  whole : {queue : List Skeleton} → ((m : ℕ) → IsStop a m → ⊥) → AreAll a queue → IsShort queue page → Ends a page Ending.whole queue
