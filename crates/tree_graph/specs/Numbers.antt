-- The numbers of `element` tokens, by their positions in the order of the tree.
use Rattle.std.specs.Prelude.{◌≡◌, ℕ, List, ◌++◌, drop, slice_index}
use Rattle.simple_form_laws.specs.Forms.{token_number}

-- the number of the token that k others precede in the tree
abbrev pub number_at : List ℕ → ℕ → ℕ
number_at places k = token_number places k (slice_index places k)

-- behind n tokens there come those at these places
abbrev pub Follows : List ℕ → ℕ → List ℕ → Type 0
Follows places n ats = (rest : List ℕ) × (drop n places ≡ ats ++ rest)
