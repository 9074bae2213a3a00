-- How many steps a listing counts for what it writes: this project's own.
use Rattle.std.specs.Prelude.{ℕ, ◌+◌, ◌*◌, ◌≤◌, List, ◌++◌, length, Option, Bool, true, false, Result, Ok, Err, Contains}
use Rattle.std.specs.Io.KnownBytes.{Appends}
use Rattle.rng_model.specs.Hedges.{Skeleton}
use Rattle.rng_model.specs.Listing.{IsListed}
use Rattle.feasibility.specs.Tables.{Table}
use Rattle.lister.specs.Walks.{Walk}
use Rattle.listing_laws.specs.Pending.{Asked, Ending, Ends}
use Rattle.listing_laws.specs.Fronts.{BeginsWith}
use Rattle.listing.specs.Progress.{asked_of, texts_of}
use Rattle.listing.specs.Doing.{IsDoneBelow, IsReady}
use Rattle.listing.specs.declared.listing_end.ListingEnd.{ListingEnd}

module _ (taken taken_now : Option (List ℕ)) (x y each steps : ℕ) where
  -- the documents of the front are written; the steps and `x` are at most `y` and `each` for each of them
  pub record IsWrittenFor (front : List Skeleton) : Type 0 where
    pub bytes : Appends taken taken_now (texts_of front)
    pub ticks : steps + x ≤ y + each * length front

  -- The first documents of the listing are written, and perhaps a part of the next one; the steps and `x` are at most `y` and `each` for each
  -- document that is written whole.
  pub record HasCost (a : Asked) (page : Option ℕ) : Type 0 where
    pub front : List Skeleton
    pub listed : (s : Skeleton) → Contains front s → IsListed a.schema a.lists a.size s
    pub begins : (e : Ending) (queue : List Skeleton) → Ends a page e queue → BeginsWith front queue
    pub part : List ℕ
    pub bytes : Appends taken taken_now (texts_of front ++ part)
    pub ticks : steps + x ≤ y + each * length front

module _ (t : Table) (n : ℕ) (after : Option Skeleton) (page : Option ℕ) (taken taken_now : Option (List ℕ)) (x y each steps : ℕ) where
  -- after one document more the walk goes on; where there is none, the size has its cost
  abbrev pub CostsOn : Walk → Option ℕ → Result Bool ListingEnd → Type 0
  CostsOn w left (Ok true) = IsReady t n after (IsWrittenFor taken taken_now x y each steps) page w left
  CostsOn w left (Ok false) = IsDoneBelow (asked_of t n after) (IsWrittenFor taken taken_now x (y + each) each steps) page (w.size + 1) left
  CostsOn w left (Err end) = HasCost taken taken_now x (y + each) each steps (asked_of t n after) page

  -- all below a size is written for so many steps, or what was written when the listing ended for `last` of them
  abbrev pub CostsTo : ℕ → ℕ → Option ℕ → Result Unit ListingEnd → Type 0
  CostsTo last m left (Ok done) = IsDoneBelow (asked_of t n after) (IsWrittenFor taken taken_now x y each steps) page m left
  CostsTo last m left (Err end) = HasCost taken taken_now x last each steps (asked_of t n after) page

-- What a listing up to its first whole size, m, costs: `y` and `each` for each size up to m.
module _ (t : Table) (n : ℕ) (after : Option Skeleton) (page : Option ℕ) (taken taken_now : Option (List ℕ)) (y each steps : ℕ) where
  abbrev pub CostsFirst : Option ℕ → Result ℕ ListingEnd → Type 0
  CostsFirst left (Ok m) = IsDoneBelow (asked_of t n after) (IsWrittenFor taken taken_now each (y + each * m) each steps) page m left
  CostsFirst left (Err end) = HasCost taken taken_now 0 (y + each) each steps (asked_of t n after) page
