-- The summary of a list of skeletons: this project's own.
use Rattle.std.specs.Prelude.{ℕ, ◌%◌, ◌^◌, ◌==◌, if◌then◌else◌, List, [], ◌++◌, length, flat_map, count_by, sum, codes, decimal}
use Rattle.std.specs.List.{range_with_len}
use Rattle.rng_model.specs.Hedges.{Skeleton, size}
use Rattle.rng_model.specs.Lines.{skeleton_text}

-- their texts in a row
abbrev pub texts : List Skeleton → List ℕ
texts queue = flat_map skeleton_text queue

-- how many of the skeletons have the size
abbrev pub count_of_size : List Skeleton → ℕ → ℕ
count_of_size queue m = count_by (λ s. size s == m) queue

-- a line of a size and a number
abbrev pub size_text : ℕ → ℕ → List ℕ
size_text m count = codes "size " ++ decimal m ++ codes " count " ++ decimal count ++ codes "\n"

-- a line for the size, where some have it, with their number modulo 2^64
abbrev pub size_line : List Skeleton → ℕ → List ℕ
size_line queue m = if count_of_size queue m == 0 then [] else size_text m (count_of_size queue m % 2 ^ 64)

-- the lines of the sizes from 1 to 64
unfoldable pub size_lines : List Skeleton → List ℕ
size_lines queue = flat_map (size_line queue) (range_with_len 1 64)

-- a line of a word and a number
abbrev pub number_line : List ℕ → ℕ → List ℕ
number_line word n = word ++ decimal n ++ codes "\n"

-- The summary: the sizes from 1 to 64, the number of bytes of the texts modulo 2^64, and the sum of these bytes modulo 2^32.
unfoldable pub summary : List Skeleton → List ℕ
summary queue =
    size_lines queue
    ++ number_line (codes "bytes ") (length (texts queue) % 2 ^ 64)
    ++ number_line (codes "sum ") (sum (texts queue) % 2 ^ 32)
