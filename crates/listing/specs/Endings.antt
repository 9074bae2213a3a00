-- What each end of a listing says: this project's own.
use Rattle.std.specs.Prelude.{◌≡◌, ℕ, ◌+◌, ◌≤◌, ⊤, List, [], Option, Bool, true, false, Result, Ok, Err}
use Rattle.std.specs.Io.KnownBytes.{Appends}
use Rattle.rng_model.specs.Hedges.{Skeleton}
use Rattle.outside.specs.Counts.{Rose}
use Rattle.feasibility.specs.Tables.{Table}
use Rattle.lister.specs.Walks.{Walk}
use Rattle.listing_laws.specs.Pending.{Asked, IsOver, Ending}
use Rattle.listing_laws.specs.Fronts.{IsBehind}
use Rattle.listing.specs.Progress.{asked_of, HasLeft, IsWritten, IsWrittenBelow, HasEnded, HasBegun, HasWholeSizes}
use Rattle.listing.specs.declared.listing_end.ListingEnd.{ListingEnd}
use Rattle.listing.specs.declared.listing_end.ListingEnd.TheVariants.{Full, Stopped, Whole, WriteFault, OutOfMemory}

-- how a listing ended, and what it wrote
abbrev pub EndsAs : Asked → Option ℕ → Option (List ℕ) → Option (List ℕ) → ListingEnd → Type 0
EndsAs a page taken taken_now Full = HasEnded a page Ending.full taken taken_now
EndsAs a page taken taken_now (Stopped size count) = HasEnded a page (Ending.stopped size) taken taken_now × (count ≡ a.limit + 1)
EndsAs a page taken taken_now Whole = HasEnded a page Ending.whole taken taken_now
EndsAs a page taken taken_now WriteFault = HasBegun a page taken taken_now
EndsAs a page taken taken_now OutOfMemory = HasWholeSizes a page taken taken_now

-- a listing that ends within a size isn't whole
abbrev pub IsCut : ListingEnd → Type 0
IsCut Whole = ⊥
IsCut end = ⊤

-- a failed write has its cause, and another end leaves the count of faults
abbrev pub HasCauseOf : ℕ → ℕ → ListingEnd → Type 0
HasCauseOf faults faults_now WriteFault = Rose faults faults_now
HasCauseOf faults faults_now end = faults_now ≡ faults

-- A walk through a size goes on: its size is asked for and hasn't too many states, what comes before its next document is written, and
-- the page isn't full.
pub record IsReadyFor (t : Table) (n : ℕ) (after : Option Skeleton) (w : Walk) (page left : Option ℕ) (taken taken_now : Option (List ℕ)) : Type 0 where
  pub asked : w.size ≤ n
  pub fits : IsOver (asked_of t n after) w.size → ⊥
  pub written : IsWritten (asked_of t n after) page w.size w.stage left taken taken_now

-- after one document more the walk goes on; where there is none, all of the size and of the smaller ones is written
abbrev pub Advances : Table → ℕ → Option Skeleton → Walk → Option ℕ → Option ℕ → Option (List ℕ) → Option (List ℕ) → Result Bool ListingEnd → Type 0
Advances t n after w page left taken taken_now (Ok true) = IsReadyFor t n after w page left taken taken_now
Advances t n after w page left taken taken_now (Ok false) = IsWrittenBelow (asked_of t n after) page (w.size + 1) left taken taken_now
Advances t n after w page left taken taken_now (Err end) = EndsAs (asked_of t n after) page taken taken_now end

-- all of the size and of the smaller ones is written, or how the listing ended
abbrev pub Completes : Table → ℕ → Option Skeleton → Walk → Option ℕ → Option ℕ → Option (List ℕ) → Option (List ℕ) → Result Unit ListingEnd → Type 0
Completes t n after w page left taken taken_now (Ok done) = IsWrittenBelow (asked_of t n after) page (w.size + 1) left taken taken_now
Completes t n after w page left taken taken_now (Err end) = EndsAs (asked_of t n after) page taken taken_now end

-- A listing comes to a size: all smaller documents are written, the cursor is smaller, and the page isn't full.
pub record IsAtSize (t : Table) (n : ℕ) (after : Option Skeleton) (m : ℕ) (page left : Option ℕ) (taken taken_now : Option (List ℕ)) : Type 0 where
  pub written : IsWrittenBelow (asked_of t n after) page m left taken taken_now
  pub behind : IsBehind (asked_of t n after) m

-- nothing is written, and what is left is the whole page
pub record IsAtStart (page left : Option ℕ) (taken taken_now : Option (List ℕ)) : Type 0 where
  pub room : HasLeft page left 0
  pub bytes : Appends taken taken_now []

-- the listing comes to the next size, or ended
abbrev pub GoesOn : Table → ℕ → Option Skeleton → ℕ → Option ℕ → Option ℕ → Option (List ℕ) → Option (List ℕ) → Result Unit ListingEnd → Type 0
GoesOn t n after m page left taken taken_now (Ok done) = IsAtSize t n after (m + 1) page left taken taken_now
GoesOn t n after m page left taken taken_now (Err end) = EndsAs (asked_of t n after) page taken taken_now end

-- the listing comes to its first whole size, or ended
abbrev pub Begins : Table → ℕ → Option Skeleton → Option ℕ → Option ℕ → Option (List ℕ) → Option (List ℕ) → Result ℕ ListingEnd → Type 0
Begins t n after page left taken taken_now (Ok m) = IsAtSize t n after m page left taken taken_now
Begins t n after page left taken taken_now (Err end) = EndsAs (asked_of t n after) page taken taken_now end

-- a failed write has its cause, and otherwise the count of faults stands
abbrev pub HasCauseIn : {A : Type 0} → ℕ → ℕ → Result A ListingEnd → Type 0
HasCauseIn faults faults_now (Ok x) = faults_now ≡ faults
HasCauseIn faults faults_now (Err end) = HasCauseOf faults faults_now end
