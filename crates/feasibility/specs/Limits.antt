-- Why a table doesn't grow.
use Rattle.std.specs.Prelude.{◌≡◌, ℕ, ◌+◌, ⊤}
use Rattle.rng_model.specs.States.{ReachesMore}
use Rattle.feasibility.specs.declared.fault.TableFault.{TableFault}
use Rattle.feasibility.specs.declared.fault.TableFault.TheVariants.{StateLimit, OutOfMemory}
use Rattle.feasibility.specs.Tables.{Table, lists}

-- more states than the limit are reached with so many nodes
pub record IsOver (t : Table) (asked at_size at_count : ℕ) : Type 0 where
  pub size : at_size ≡ asked
  pub count : at_count ≡ t.limit + 1
  pub more : ReachesMore t.schema (lists t) asked t.limit

-- which fault comes where
abbrev pub IsOverLimit : Table → ℕ → TableFault → Type 0
IsOverLimit t asked (StateLimit size count) = IsOver t asked size count
IsOverLimit t asked OutOfMemory = ⊤
