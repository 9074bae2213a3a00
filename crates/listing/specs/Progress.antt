-- How far a listing has come: this project's own.
use Rattle.std.specs.Prelude.{◌≡◌, ℕ, ◌+◌, ◌-◌, ◌*◌, ◌≤◌, ⊤, List, flat_map, length, Option, Some, None}
use Rattle.std.specs.Io.KnownBytes.{Appends}
use Rattle.rng_model.specs.Texts.{Text}
use Rattle.rng_model.specs.Hedges.{Skeleton, size}
use Rattle.rng_model.specs.Events.{events}
use Rattle.rng_model.specs.Lines.{skeleton_text}
use Rattle.rng_model.specs.Universe.{Lists}
use Rattle.rng_model.specs.Codes.{AreCodes}
use Rattle.feasibility.specs.Tables.{Table, lists}
use Rattle.lister.specs.Walks.{Stage}
use Rattle.outside.specs.Devices.{IsFrontOf}
use Rattle.listing_laws.specs.Pending.{Asked, Ending, Ends}
use Rattle.listing_laws.specs.Ranks.{rank, rank_total}
use Rattle.listing_laws.specs.Fronts.{AreBelow, AreUpTo, IsBehind, NoStopBelow, BeginsWith}

-- what is asked of a table
abbrev pub asked_of : Table → ℕ → Option Skeleton → Asked
asked_of t n after = record { schema = t.schema; lists = lists t; size = n; after = after; limit = t.limit }

-- the texts of documents
abbrev pub texts_of : List Skeleton → Text
texts_of = flat_map skeleton_text

-- if there is a page limit, what is left of it after so many documents, at least one
abbrev pub HasLeft : Option ℕ → Option ℕ → ℕ → Type 0
HasLeft None None many = ⊤
HasLeft (Some k) (Some left) many = (1 ≤ left) × (many + left ≡ k)
HasLeft page left many = ⊥

module _ (a : Asked) where
  -- what is written when a walk through size m stands at a stage
  abbrev pub HasCome : ℕ → Stage → List Skeleton → Type 0
  HasCome m Stage.nowhere front = ⊥
  HasCome m Stage.before front = AreBelow a m front × IsBehind a m
  HasCome m (Stage.at codes states) front =
      (last : Skeleton) × AreCodes a.lists (events last) codes × (size last ≡ m) × AreUpTo a last front
  HasCome m Stage.past front = AreBelow a (m + 1) front

  -- What is written, and nothing else: all that comes before the next document of the walk, and the page isn't full.
  pub record IsWritten (page : Option ℕ) (m : ℕ) (stage : Stage) (left : Option ℕ) (taken taken_now : Option (List ℕ)) : Type 0 where
    pub front : List Skeleton
    pub room : HasLeft page left (length front)
    pub bytes : Appends taken taken_now (texts_of front)
    pub come : HasCome m stage front

  -- all documents below size m are written, the page isn't full, and no smaller size has too many states
  pub record IsWrittenBelow (page : Option ℕ) (m : ℕ) (left : Option ℕ) (taken taken_now : Option (List ℕ)) : Type 0 where
    pub front : List Skeleton
    pub room : HasLeft page left (length front)
    pub bytes : Appends taken taken_now (texts_of front)
    pub below : AreBelow a m front
    pub no_stop : NoStopBelow a m

  -- the bytes begin what is written in the end
  abbrev pub BeginsListing : Option ℕ → List ℕ → Type 0
  BeginsListing page bytes = (e : Ending) (queue : List Skeleton) → Ends a page e queue → IsFrontOf bytes (texts_of queue)

  -- the output's bytes grew by such
  pub record HasBegun (page : Option ℕ) (taken taken_now : Option (List ℕ)) : Type 0 where
    pub bytes : List ℕ
    pub front : BeginsListing page bytes
    pub appended : Appends taken taken_now bytes

  -- the output's bytes grew by the texts of all documents below a size
  pub record HasWholeSizes (page : Option ℕ) (taken taken_now : Option (List ℕ)) : Type 0 where
    pub below : ℕ
    pub front : List Skeleton
    pub all : AreBelow a below front
    pub begins : (e : Ending) (queue : List Skeleton) → Ends a page e queue → BeginsWith front queue
    pub appended : Appends taken taken_now (texts_of front)

  -- the listing ended so, and the output's bytes grew by what is written
  pub record HasEnded (page : Option ℕ) (e : Ending) (taken taken_now : Option (List ℕ)) : Type 0 where
    pub queue : List Skeleton
    pub ends : Ends a page e queue
    pub appended : Appends taken taken_now (texts_of queue)

-- how many documents of size m may still follow: it falls with each that is found
abbrev pub walk_left : Lists → ℕ → Stage → ℕ
walk_left u m (Stage.at codes states) = rank_total u (3 * m) - rank u (3 * m) codes
walk_left u m Stage.before = rank_total u (3 * m) + 1
walk_left u m stage = 0
