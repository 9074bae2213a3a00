-- What a listing has written when it comes to a size or to a document: this project's own.
use Rattle.std.specs.Prelude.{◌≡◌, ◌≢◌, ℕ, ◌<◌, ◌≤◌, ◌↔◌, ⊤, List, ◌++◌, Option, Some, None, Contains}
use Rattle.std.specs.declared.cmp.Ordering.TheVariants.{Less}
use Rattle.std.specs.List.Sorted.{IsStrictlySortedBy}
use Rattle.rng_model.specs.Hedges.{Skeleton, size}
use Rattle.rng_model.specs.Events.{skeleton_cmp}
use Rattle.rng_model.specs.Listing.{IsListed}
use Rattle.listing_laws.specs.Pending.{Asked, Follows, IsStop}

module _ (a : Asked) where
  -- the document is listed and follows the cursor
  pub record IsDue (s : Skeleton) : Type 0 where
    pub listed : IsListed a.schema a.lists a.size s
    pub follows : Follows a.after s

  -- those that are due and smaller than m, in order and each once
  pub record AreBelow (m : ℕ) (front : List Skeleton) : Type 0 where
    pub ascending : IsStrictlySortedBy skeleton_cmp front
    pub each : (s : Skeleton) → Contains front s ↔ (IsDue s × (size s < m))

  -- those that are due up to a document, which isn't before the cursor
  pub record AreUpTo (last : Skeleton) (front : List Skeleton) : Type 0 where
    pub ascending : IsStrictlySortedBy skeleton_cmp front
    pub each : (s : Skeleton) → Contains front s ↔ (IsDue s × (skeleton_cmp last s ≢ Less))
    pub from : (c : Skeleton) → a.after ≡ Some c → skeleton_cmp last c ≢ Less

  -- the cursor, if there is one, is smaller than m
  abbrev pub IsBehind : ℕ → Type 0
  IsBehind m = (c : Skeleton) → a.after ≡ Some c → size c < m

  -- no size below m is too large
  abbrev pub NoStopBelow : ℕ → Type 0
  NoStopBelow m = (k : ℕ) → IsStop a k → m ≤ k

-- so many documents fit on the page, if there is a page limit
abbrev pub Fits : ℕ → Option ℕ → Type 0
Fits n None = ⊤
Fits n (Some k) = n ≤ k

-- the list begins with the front
pub record BeginsWith (front list : List Skeleton) : Type 0 where
  pub rest : List Skeleton
  pub is : list ≡ front ++ rest
