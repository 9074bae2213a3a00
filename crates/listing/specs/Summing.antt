-- How a listing that is summed goes on and ends: this project's own.
use Rattle.std.specs.Prelude.{◌≡◌, ℕ, ◌+◌, ◌*◌, ◌≤◌, ⊤, List, length, Option, None, Bool, true, false, Result, Ok, Err}
use Rattle.rng_model.specs.Hedges.{Skeleton}
use Rattle.rng_model.specs.Universe.{event_count}
use Rattle.feasibility.specs.Tables.{Table, lists}
use Rattle.lister.specs.Walks.{Walk}
use Rattle.listing_laws.specs.Pending.{Asked, Ending, Ends}
use Rattle.summary.specs.Totals.{Totals, IsTallyOf}
use Rattle.listing.specs.Progress.{asked_of}
use Rattle.listing.specs.Doing.{IsDoneBelow, EndsDone, IsReady}
use Rattle.listing.specs.declared.listing_end.ListingEnd.{ListingEnd}
use Rattle.listing.specs.declared.listing_end.ListingEnd.TheVariants.{Full, Stopped, Whole, WriteFault, OutOfMemory}

-- the listing ended so, and the totals are those of what is listed
pub record HasSummed (a : Asked) (page : Option ℕ) (e : Ending) (totals : Totals) : Type 0 where
  pub queue : List Skeleton
  pub ends : Ends a page e queue
  pub tally : IsTallyOf totals queue

-- how it ended; nothing is written
abbrev pub SumsAs : Asked → Option ℕ → Totals → ListingEnd → Type 0
SumsAs a page totals Full = HasSummed a page Ending.full totals
SumsAs a page totals (Stopped size count) = HasSummed a page (Ending.stopped size) totals × (count ≡ a.limit + 1)
SumsAs a page totals Whole = HasSummed a page Ending.whole totals
SumsAs a page totals WriteFault = ⊥
SumsAs a page totals OutOfMemory = ⊤

-- the most steps that a walk counts for one document
abbrev pub each_of : Table → ℕ → ℕ
each_of t room = 12 * room * event_count (lists t)

-- the totals are those of the front, and the steps and `x` are at most `y` and those of each document
pub record IsSum (totals : Totals) (x y each steps : ℕ) (front : List Skeleton) : Type 0 where
  pub tally : IsTallyOf totals front
  pub ticks : steps + x ≤ y + each * length front

module _ (t : Table) (n : ℕ) (page : Option ℕ) (w : Walk) (left : Option ℕ) (totals : Totals) (x y each steps : ℕ) where
  -- after one document more the walk goes on; where there is none, all of the size and of the smaller ones is summed
  abbrev pub SumsOn : Result Bool ListingEnd → Type 0
  SumsOn (Ok true) = IsReady t n None (IsSum totals x y each steps) page w left
  SumsOn (Ok false) = IsDoneBelow (asked_of t n None) (IsSum totals x (y + each) each steps) page (w.size + 1) left
  SumsOn (Err end) = EndsDone (asked_of t n None) (IsSum totals x (y + each) each steps) page end

-- all below a size is summed, or how the listing ended
abbrev pub SumsTo : Table → ℕ → Option ℕ → ℕ → Option ℕ → (List Skeleton → Type 0) → (List Skeleton → Type 0) → Result Unit ListingEnd → Type 0
SumsTo t n page m left Done Last (Ok done) = IsDoneBelow (asked_of t n None) Done page m left
SumsTo t n page m left Done Last (Err end) = EndsDone (asked_of t n None) Last page end
