-- Why a run ends, by the counts of faults: this project's own.
use Rattle.std.specs.Prelude.{◌≡◌, ℕ, ◌⊎◌}
use Rattle.outside.specs.Counts.{Rose}
use Rattle.list_command.specs.declared.outcome.Outcome.{Outcome}
use Rattle.list_command.specs.declared.outcome.Outcome.TheVariants.{Words, ReadFault, WriteFault}

-- Where nothing is written: a read failed, or a file that is needed is missing; else the count of failed reads stands.
abbrev pub HasReadCause : Type 0 → ℕ → ℕ → Outcome → Type 0
HasReadCause Missing reads reads_now Words = ⊥
HasReadCause Missing reads reads_now ReadFault = Rose reads reads_now ⊎ Missing
HasReadCause Missing reads reads_now WriteFault = ⊥
HasReadCause Missing reads reads_now outcome = reads_now ≡ reads

-- Where nothing is read: a write failed; else the count of failed writes stands.
abbrev pub HasWriteCause : ℕ → ℕ → Outcome → Type 0
HasWriteCause writes writes_now Words = ⊥
HasWriteCause writes writes_now ReadFault = ⊥
HasWriteCause writes writes_now WriteFault = Rose writes writes_now
HasWriteCause writes writes_now outcome = writes_now ≡ writes

-- a read or a write failed, or a file that is needed is missing; else both counts stand
abbrev pub HasCauses : Type 0 → ℕ → ℕ → ℕ → ℕ → Outcome → Type 0
HasCauses Missing reads reads_now writes writes_now Words = ⊥
HasCauses Missing reads reads_now writes writes_now ReadFault = Rose reads reads_now ⊎ Missing
HasCauses Missing reads reads_now writes writes_now WriteFault = Rose writes writes_now
HasCauses Missing reads reads_now writes writes_now outcome = (reads_now ≡ reads) × (writes_now ≡ writes)
