-- Tokens in the order of their numbers.
use Rattle.std.specs.Prelude.{◌≡◌, ℕ, suc, ◌<◌, List, [], ◌∷◌, length, Some, slice_get, slice_index}
use Rattle.tree_graph.specs.Numbers.{number_at}

-- each place with its position, from n on
abbrev pub paired : ℕ → List ℕ → List (ℕ × ℕ)
paired n [] = []
paired n (x ∷ xs) = (x, n) ∷ paired (suc n) xs

-- Each token, its place and its position, stands at its number, and there are no others.
pub record AreRanks (places : List ℕ) (ranks : List (ℕ × ℕ)) : Type 0 where
  pub each : length ranks ≡ length places
  pub within : (r : ℕ) (e : ℕ × ℕ) → slice_get ranks r ≡ Some e → (e.1 < length places) × (e.0 ≡ slice_index places e.1)
  pub there : (k : ℕ) → k < length places → slice_get ranks (number_at places k) ≡ Some (slice_index places k, k)
  pub apart : (r k : ℕ) → slice_get ranks r ≡ Some (slice_index places k, k) → r ≡ number_at places k

-- each position's number
pub record AreNumbers (places numbers : List ℕ) : Type 0 where
  pub each : length numbers ≡ length places
  pub at : (k : ℕ) → k < length places → slice_get numbers k ≡ Some (number_at places k)

-- what stands at a position stands at the position's number
pub record IsByNumber (places elements ordered : List ℕ) : Type 0 where
  pub each : length ordered ≡ length places
  pub at : (k : ℕ) → k < length places → slice_get ordered (number_at places k) ≡ slice_get elements k
  pub from : (n : ℕ) → n < length places → (k : ℕ) × (k < length places) × (number_at places k ≡ n)
