-- Which bits of words are the marks of states.
use Rattle.std.specs.Prelude.{◌≡◌, ℕ, ◌<◌, ◌≤◌, ◌==◌, Bool, List, [], ◌∷◌, map, min, take, length, slice_index_or, suc}
use Rattle.std.specs.Int.{bit_at}

-- the mark of so many nodes in the word of a state
abbrev pub has_bit : ℕ → ℕ → Bool
has_bit rest word = bit_at word rest == 1

-- the marks of so many nodes of the first n states
abbrev pub column : ℕ → List ℕ → ℕ → List Bool
column rest words n = map (has_bit rest) (take n words)

-- the lists of marks from a number of nodes on, by how many states each marks
abbrev pub columns : ℕ → List ℕ → List ℕ → List (List Bool)
columns rest words [] = []
columns rest words (n ∷ lens) = column rest words n ∷ columns (suc rest) words lens

-- there is a bit for each list, and a word for each state that has a mark
pub record AreColumns (words lens : List ℕ) : Type 0 where
  pub few : length lens ≤ 64
  pub each : (rest : ℕ) → slice_index_or lens rest 0 ≤ length words

-- the list of so many nodes
abbrev pub list_of : List (List Bool) → ℕ → List Bool
list_of marks rest = slice_index_or marks rest []

-- the numbers at the places below the one are cut to the count
pub record AreCut (old new : List ℕ) (count place : ℕ) : Type 0 where
  pub all : length new ≡ length old
  pub below : (i : ℕ) → i < place → slice_index_or new i 0 ≡ min (slice_index_or old i 0) count
  pub others : (i : ℕ) → place ≤ i → slice_index_or new i 0 ≡ slice_index_or old i 0

-- there are lists beyond the words' only where each bit of the words has one
pub record AreParts (words lists : List (List Bool)) : Type 0 where
  pub few : length words ≤ 64
  pub full : 0 < length lists → length words ≡ 64
