-- The fault of a table that doesn't grow.
use Rattle.std.specs.Prelude.{ℕ, ◌+◌}
use Rattle.feasibility.specs.declared.fault.Refusal.{Refusal}
use Rattle.feasibility.specs.declared.fault.Refusal.TheVariants as refusal
use Rattle.feasibility.specs.declared.fault.TableFault.{TableFault}
use Rattle.feasibility.specs.declared.fault.TableFault.TheVariants.{StateLimit, OutOfMemory}

-- where there are as many states as the limit allows, it is reached; else memory is wanting
abbrev pub fault_of : Refusal → ℕ → ℕ → TableFault
fault_of refusal.Full size limit = StateLimit size (limit + 1)
fault_of refusal.OutOfMemory size limit = OutOfMemory
