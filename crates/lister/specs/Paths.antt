-- The codes of a document as far as they are found, and the states before them: this project's own.
use Rattle.std.specs.Prelude.{◌≡◌, ℕ, ◌≤◌, List, [], ◌∷◌, ◌++◌, length, drop}
use Rattle.rng_model.specs.Codes.{Code, nodes}

-- the greatest number of nodes, the codes, and the numbers of the states before the first of them
pub record Path : Type 0 where
  pub room : ℕ
  pub codes : List Code
  pub states : List ℕ

-- no code was found yet
abbrev pub empty_path : ℕ → Path
empty_path room = record { room = room; codes = []; states = [] }

-- one code more
abbrev pub with_code : Path → Code → Path
with_code p c = record { room = p.room; codes = p.codes ++ (c ∷ []); states = p.states }

-- one code more, and the state before it
abbrev pub with_step : Path → ℕ → Code → Path
with_step p id c = record { room = p.room; codes = p.codes ++ (c ∷ []); states = p.states ++ (id ∷ []) }

-- the last state was taken away, and the codes from the one behind it on
pub record IsBack (old new : Path) (id : ℕ) (c : Code) : Type 0 where
  pub room : new.room ≡ old.room
  pub states : old.states ≡ new.states ++ (id ∷ [])
  pub rest : List Code
  pub codes : old.codes ≡ new.codes ++ (c ∷ rest)
  pub level : length new.codes ≡ length new.states

-- behind the last code before which a state stands no code has a node
pub record IsKept (p : Path) : Type 0 where
  pub within : length p.states ≤ length p.codes
  pub no_node : nodes (drop (length p.states) p.codes) ≡ 0
