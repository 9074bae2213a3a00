-- What is kept of skeletons that were counted: this project's own.
use Rattle.std.specs.Prelude.{◌≡◌, ℕ, ◌+◌, ◌<◌, ◌%◌, ◌^◌, ◌==◌, if◌then◌else◌, List, [], ◌++◌, Option, Some, None, flat_map, get_or, length, sum, codes}
use Rattle.std.specs.List.{range_with_len}
use Rattle.rng_model.specs.Hedges.{Skeleton}
use Rattle.summary.specs.Summary.{texts, count_of_size, size_text, number_line}

-- how many have each size, of the sizes from 1 to 64 in their order; the number of bytes; their sum
pub record Totals : Type 0 where
  pub counts : List (Option ℕ)
  pub bytes : ℕ
  pub sum : ℕ

-- nothing where none was counted, else their number modulo 2^64
unfoldable pub kept_count : ℕ → Option ℕ
kept_count n = if n == 0 then None else Some (n % 2 ^ 64)

-- The totals of the skeletons of a list: how many have each size, and how many bytes their texts have, modulo 2^64, and the sum of the
-- bytes modulo 2^32.
pub record IsTallyOf (t : Totals) (queue : List Skeleton) : Type 0 where
  pub sizes : length t.counts ≡ 64
  pub counts : (i : ℕ) → i < 64 → get_or t.counts i None ≡ kept_count (count_of_size queue (i + 1))
  pub bytes : t.bytes ≡ length (texts queue) % 2 ^ 64
  pub sum : t.sum ≡ sum (texts queue) % 2 ^ 32

-- a line for a size of which some were counted
abbrev pub count_line : ℕ → Option ℕ → List ℕ
count_line m None = []
count_line m (Some n) = size_text m n

-- the line for the size at this place
unfoldable pub place_line : List (Option ℕ) → ℕ → List ℕ
place_line counts i = count_line (i + 1) (get_or counts i None)

-- the lines of so many sizes
unfoldable pub place_lines : List (Option ℕ) → ℕ → List ℕ
place_lines counts n = flat_map (place_line counts) (range_with_len 0 n)

-- the lines of the totals
unfoldable pub totals_text : Totals → List ℕ
totals_text t = place_lines t.counts 64 ++ number_line (codes "bytes ") t.bytes ++ number_line (codes "sum ") t.sum
