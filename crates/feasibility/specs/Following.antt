-- What a table tells of the states that follow: this project's own.
use Rattle.std.specs.Prelude.{◌≡◌, ℕ, ◌+◌, ◌<◌, ◌≤◌, Option, length}
use Rattle.std.specs.declared.cmp.Ordering.TheVariants.{Less}
use Rattle.rng_model.specs.Codes.{Code, code_cmp}
use Rattle.rng_model.specs.States.{step, Reach}
use Rattle.table_laws.specs.Finishing.{CanTake}
use Rattle.transitions.specs.Bounds.{IsPast}
use Rattle.feasibility.specs.Tables.{Table, lists, state_of}

-- the table holds the number
abbrev pub IsHeld : Table → ℕ → Type 0
IsHeld t id = id < length t.states

-- the table has grown so far that it tells what follows the state with so many nodes more
abbrev pub IsGrownFor : Table → ℕ → ℕ → Type 0
IsGrownFor t id more = (k : ℕ) × Reach t.schema (lists t) k (state_of t id) × (k + more ≤ t.grown)

-- the state can go on with the code so that it can finish with exactly so many nodes in all
abbrev pub Takes : Table → ℕ → ℕ → Code → Type 0
Takes t id rest c = CanTake t.schema (lists t) rest (state_of t id) c

-- the number has the state after the code
pub record LeadsTo (t : Table) (id : ℕ) (c : Code) (next : ℕ) : Type 0 where
  pub held : IsHeld t next
  pub state : state_of t next ≡ step t.schema (lists t) (state_of t id) c

-- the least code past the bound that the state can take, and the state after it
pub record IsNextTaken (t : Table) (id : ℕ) (bound : Option Code) (rest : ℕ) (c : Code) (next : ℕ) : Type 0 where
  pub past : IsPast bound c
  pub takes : Takes t id rest c
  pub leads : LeadsTo t id c next
  pub first : (d : Code) → IsPast bound d → code_cmp d c ≡ Less → Takes t id rest d → ⊥

-- the state can take no code past the bound
abbrev pub NothingTaken : Table → ℕ → Option Code → ℕ → Type 0
NothingTaken t id bound rest = (d : Code) → IsPast bound d → Takes t id rest d → ⊥
