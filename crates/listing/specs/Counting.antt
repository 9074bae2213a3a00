-- How the counting of states goes on and ends: this project's own.
use Rattle.std.specs.Prelude.{◌≡◌, ℕ, ◌+◌, List, [], ◌∷◌, ◌++◌, length, Option, Result, Ok, Err, codes, decimal}
use Rattle.std.specs.Io.KnownBytes.{Appends}
use Rattle.outside.specs.Devices.{IsFrontOf}
use Rattle.listing_laws.specs.Pending.{Asked, Ending}
use Rattle.listing_laws.specs.Fronts.{NoStopBelow}
use Rattle.listing_laws.specs.StateCounts.{AreCounts, EndsCounting}
use Rattle.listing.specs.declared.listing_end.ListingEnd.{ListingEnd}
use Rattle.listing.specs.declared.listing_end.ListingEnd.TheVariants.{Full, Stopped, Whole, WriteFault, OutOfMemory}

-- a line with a size and its number of states for each size from the first on
abbrev pub count_lines : ℕ → List ℕ → List ℕ
count_lines from [] = []
count_lines from (count ∷ counts) = decimal from ++ codes " " ++ decimal count ++ codes "\n" ++ count_lines (from + 1) counts

module _ (a : Asked) where
  -- the lines of all sizes below m are written, and no smaller size has too many states
  pub record IsCountedBelow (m : ℕ) (taken taken_now : Option (List ℕ)) : Type 0 where
    pub counts : List ℕ
    pub are : AreCounts a.schema a.lists 1 counts
    pub many : length counts + 1 ≡ m
    pub bytes : Appends taken taken_now (count_lines 1 counts)
    pub no_stop : NoStopBelow a m

  -- the counting ended so, and the output's bytes grew by the lines of what was counted
  pub record HasCounted (e : Ending) (taken taken_now : Option (List ℕ)) : Type 0 where
    pub counts : List ℕ
    pub ends : EndsCounting a e counts
    pub appended : Appends taken taken_now (count_lines 1 counts)

  -- the output's bytes grew by a front of what is written in the end
  pub record HasBegunCounting (taken taken_now : Option (List ℕ)) : Type 0 where
    pub bytes : List ℕ
    pub front : (e : Ending) (counts : List ℕ) → EndsCounting a e counts → IsFrontOf bytes (count_lines 1 counts)
    pub appended : Appends taken taken_now bytes

  -- how the counting ended, and what it wrote; there is no page
  abbrev pub CountsAs : Option (List ℕ) → Option (List ℕ) → ListingEnd → Type 0
  CountsAs taken taken_now Full = ⊥
  CountsAs taken taken_now (Stopped size count) = HasCounted (Ending.stopped size) taken taken_now × (count ≡ a.limit + 1)
  CountsAs taken taken_now Whole = HasCounted Ending.whole taken taken_now
  CountsAs taken taken_now WriteFault = HasBegunCounting taken taken_now
  CountsAs taken taken_now OutOfMemory = HasBegunCounting taken taken_now

  -- the line of size m is written too, or how the counting ended
  abbrev pub CountsOn : ℕ → Option (List ℕ) → Option (List ℕ) → Result Unit ListingEnd → Type 0
  CountsOn m taken taken_now (Ok done) = IsCountedBelow (m + 1) taken taken_now
  CountsOn m taken taken_now (Err end) = CountsAs taken taken_now end
