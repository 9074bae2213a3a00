-- How far a listing has come, whatever is done with its documents: this project's own.
use Rattle.std.specs.Prelude.{◌≡◌, ℕ, ◌+◌, ◌≤◌, List, length, Option}
use Rattle.rng_model.specs.Hedges.{Skeleton}
use Rattle.feasibility.specs.Tables.{Table}
use Rattle.lister.specs.Walks.{Walk, Stage}
use Rattle.listing_laws.specs.Pending.{Asked, IsOver, Ending, Ends}
use Rattle.listing_laws.specs.Fronts.{AreBelow, NoStopBelow, BeginsWith}
use Rattle.listing.specs.Progress.{asked_of, HasLeft, HasCome}
use Rattle.listing.specs.declared.listing_end.ListingEnd.{ListingEnd}
use Rattle.listing.specs.declared.listing_end.ListingEnd.TheVariants.{Full, Stopped, Whole, WriteFault, OutOfMemory}

-- `Done front` says what is so once the documents of the front were passed.
module _ (a : Asked) (Done : List Skeleton → Type 0) (page : Option ℕ) where
  -- all that comes before the next document of a walk is done, and the page isn't full
  pub record IsDoneBefore (m : ℕ) (stage : Stage) (left : Option ℕ) : Type 0 where
    pub front : List Skeleton
    pub room : HasLeft page left (length front)
    pub done : Done front
    pub come : HasCome a m stage front

  -- all documents below size m are done, the page isn't full, and no smaller size has too many states
  pub record IsDoneBelow (m : ℕ) (left : Option ℕ) : Type 0 where
    pub front : List Skeleton
    pub room : HasLeft page left (length front)
    pub done : Done front
    pub below : AreBelow a m front
    pub no_stop : NoStopBelow a m

  -- the listing ended so, and all that is listed is done
  pub record IsAllDone (e : Ending) : Type 0 where
    pub queue : List Skeleton
    pub ends : Ends a page e queue
    pub done : Done queue

  -- a front of what is listed in the end is done
  pub record IsPartDone : Type 0 where
    pub front : List Skeleton
    pub begins : (e : Ending) (queue : List Skeleton) → Ends a page e queue → BeginsWith front queue
    pub done : Done front

  -- how a listing ended that writes nothing
  abbrev pub EndsDone : ListingEnd → Type 0
  EndsDone Full = IsAllDone Ending.full
  EndsDone (Stopped size count) = IsAllDone (Ending.stopped size) × (count ≡ a.limit + 1)
  EndsDone Whole = IsAllDone Ending.whole
  EndsDone WriteFault = ⊥
  EndsDone OutOfMemory = IsPartDone

module _ (t : Table) (n : ℕ) (after : Option Skeleton) (Done : List Skeleton → Type 0) (page : Option ℕ) where
  -- a walk through a size goes on: the size is asked for and hasn't too many states
  pub record IsReady (w : Walk) (left : Option ℕ) : Type 0 where
    pub asked : w.size ≤ n
    pub fits : IsOver (asked_of t n after) w.size → ⊥
    pub before : IsDoneBefore (asked_of t n after) Done page w.size w.stage left
