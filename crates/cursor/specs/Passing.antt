-- One event of a document over the states of a table: this project's own.
use Rattle.std.specs.Prelude.{ℕ}
use Rattle.rng_model.specs.Events.{Event}
use Rattle.rng_model.specs.Codes.{Code, IsCode}
use Rattle.rng_model.specs.States.{step}
use Rattle.table_laws.specs.Finishing.{Finish}
use Rattle.feasibility.specs.Tables.{Table, lists, state_of}
use Rattle.feasibility.specs.Following.{LeadsTo}

-- the event leads from one state to the other, which can finish with exactly so many nodes
pub record Passes (t : Table) (id : ℕ) (e : Event) (left next : ℕ) : Type 0 where
  pub code : Code
  pub is : IsCode (lists t) e code
  pub leads : LeadsTo t id code next
  pub finishes : Finish t.schema (lists t) left (state_of t next)

-- the event leads from the state to none that can finish with exactly so many nodes
abbrev pub IsStuck : Table → ℕ → Event → ℕ → Type 0
IsStuck t id e left = (c : Code) → IsCode (lists t) e c →
    Finish t.schema (lists t) left (step t.schema (lists t) (state_of t id) c) → ⊥
