-- Which skeletons' texts were written: this project's own.
use Rattle.std.specs.Prelude.{◌≡◌, ℕ, List, ◌++◌, length, flat_map, nat_lt}
use Rattle.std.specs.List.{AllByRecursion, filter}
use Rattle.rng_model.specs.Hedges.{Skeleton, IsSkeleton, size}
use Rattle.rng_model.specs.Lines.{skeleton_text}
use Rattle.outside.specs.Devices.{IsFrontOf}

-- the texts of skeletons, in a row
abbrev pub lines : List Skeleton → List ℕ
lines = flat_map skeleton_text

-- those below a size
abbrev pub below_size : ℕ → List Skeleton → List Skeleton
below_size m = filter (λ s. nat_lt (size s) m)

-- Of the skeletons whose texts are to be written, those below some size were, and no part of another.
abbrev pub AreWholeSizes : List ℕ → List Skeleton → Type 0
AreWholeSizes written given = (m : ℕ) × (written ≡ lines (below_size m given))

-- the bytes begin with so many whole texts, and with no more
pub record HasTexts (written : List ℕ) (w : ℕ) : Type 0 where
  pub whole : List Skeleton
  pub are : AllByRecursion IsSkeleton whole
  pub rest : List ℕ
  pub is : written ≡ lines whole ++ rest
  pub many : length whole ≡ w
  pub no_more : (s : Skeleton) → IsSkeleton s → IsFrontOf (skeleton_text s) rest → ⊥
