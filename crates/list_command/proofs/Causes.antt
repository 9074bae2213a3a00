-- Why a run ends.
use Rattle.std.proofs.Common.{◌≡◌, ◌⊎◌, inl, inr, ℕ, refl, sym, ◌∙◌}
use Rattle.outside.specs.Counts.{Rose}
use Rattle.list_command.specs.declared.outcome.Outcome.{Outcome}
use Rattle.list_command.specs.declared.outcome.Outcome.TheVariants.{Done, Words, SchemaRefused, CursorRefused, StateLimit, ReadFault, WriteFault, OutOfMemory, Page}
use Rattle.list_command.specs.Causes.{HasReadCause, HasWriteCause, HasCauses}
use Rattle.list_command.specs.Runs.{IsFault}

-- nothing was written
pub read_causes : (M : Type 0) (reads reads_now writes writes_now : ℕ) (o : Outcome) → writes_now ≡ writes → HasReadCause M reads reads_now o →
    HasCauses M reads reads_now writes writes_now o
read_causes M reads reads_now writes writes_now Done e h = (h, e)
read_causes M reads reads_now writes writes_now Words e h = h
read_causes M reads reads_now writes writes_now (SchemaRefused fault name) e h = (h, e)
read_causes M reads reads_now writes writes_now (CursorRefused refusal) e h = (h, e)
read_causes M reads reads_now writes writes_now (StateLimit m count) e h = (h, e)
read_causes M reads reads_now writes writes_now ReadFault e h = h
read_causes M reads reads_now writes writes_now WriteFault e h = absurd h
read_causes M reads reads_now writes writes_now OutOfMemory e h = (h, e)
read_causes M reads reads_now writes writes_now Page e h = (h, e)

-- nothing was read, or no read failed
pub write_causes : (M : Type 0) (reads reads_now writes writes_now : ℕ) (o : Outcome) → reads_now ≡ reads → HasWriteCause writes writes_now o →
    HasCauses M reads reads_now writes writes_now o
write_causes M reads reads_now writes writes_now Done e h = (e, h)
write_causes M reads reads_now writes writes_now Words e h = h
write_causes M reads reads_now writes writes_now (SchemaRefused fault name) e h = (e, h)
write_causes M reads reads_now writes writes_now (CursorRefused refusal) e h = (e, h)
write_causes M reads reads_now writes writes_now (StateLimit m count) e h = (e, h)
write_causes M reads reads_now writes writes_now ReadFault e h = absurd h
write_causes M reads reads_now writes writes_now WriteFault e h = h
write_causes M reads reads_now writes writes_now OutOfMemory e h = (e, h)
write_causes M reads reads_now writes writes_now Page e h = (e, h)

-- the same for another way to say what is missing, after reads of which none failed
pub causes_for : (M N : Type 0) (reads between reads_now writes writes_now : ℕ) (o : Outcome) → between ≡ reads → (M → N) → HasCauses M between reads_now writes writes_now o →
    HasCauses N reads reads_now writes writes_now o
causes_for M N reads between reads_now writes writes_now o e f h = go o (rw e at h)
  where
    go : (o : Outcome) → HasCauses M reads reads_now writes writes_now o → HasCauses N reads reads_now writes writes_now o
    go Done h = h
    go Words h = h
    go (SchemaRefused fault name) h = h
    go (CursorRefused refusal) h = h
    go (StateLimit m count) h = h
    go ReadFault (inl rose) = inl rose
    go ReadFault (inr missing) = inr (f missing)
    go WriteFault h = h
    go OutOfMemory h = h
    go Page h = h

pub cause_of_read : (M : Type 0) (reads reads_now writes writes_now : ℕ) (o : Outcome) → HasCauses M reads reads_now writes writes_now o → o ≡ ReadFault → Rose reads reads_now ⊎ M
cause_of_read M reads reads_now writes writes_now o h e = rw e at h

pub cause_of_write : (M : Type 0) (reads reads_now writes writes_now : ℕ) (o : Outcome) → HasCauses M reads reads_now writes writes_now o → o ≡ WriteFault → Rose writes writes_now
cause_of_write M reads reads_now writes writes_now o h e = rw e at h

pub no_words : (M : Type 0) (reads reads_now writes writes_now : ℕ) (o : Outcome) → HasCauses M reads reads_now writes writes_now o → o ≡ Words → ⊥
no_words M reads reads_now writes writes_now o h e = rw e at h

pub fault_or_none : (M : Type 0) (reads reads_now writes writes_now : ℕ) (o : Outcome) → HasCauses M reads reads_now writes writes_now o →
    IsFault o ⊎ ((reads_now ≡ reads) × (writes_now ≡ writes))
fault_or_none M reads reads_now writes writes_now Done h = inr h
fault_or_none M reads reads_now writes writes_now Words h = absurd h
fault_or_none M reads reads_now writes writes_now (SchemaRefused fault name) h = inr h
fault_or_none M reads reads_now writes writes_now (CursorRefused refusal) h = inr h
fault_or_none M reads reads_now writes writes_now (StateLimit m count) h = inr h
fault_or_none M reads reads_now writes writes_now ReadFault h = inl tt
fault_or_none M reads reads_now writes writes_now WriteFault h = inl tt
fault_or_none M reads reads_now writes writes_now OutOfMemory h = inr h
fault_or_none M reads reads_now writes writes_now Page h = inr h

-- the same of a whole run, which may end for its words
pub run_read_fault : (M : Type 0) (reads reads_now writes writes_now : ℕ) (o : Outcome) → (o ≡ Words) ⊎ HasCauses M reads reads_now writes writes_now o →
    o ≡ ReadFault → Rose reads reads_now ⊎ M
run_read_fault M reads reads_now writes writes_now o (inl is) e = absurd (apart (sym is ∙ e))
  where
    apart : Words ≡ ReadFault → ⊥
    apart same = cc
run_read_fault M reads reads_now writes writes_now o (inr h) e = cause_of_read M reads reads_now writes writes_now o h e

pub run_write_fault : (M : Type 0) (reads reads_now writes writes_now : ℕ) (o : Outcome) → (o ≡ Words) ⊎ HasCauses M reads reads_now writes writes_now o →
    o ≡ WriteFault → Rose writes writes_now
run_write_fault M reads reads_now writes writes_now o (inl is) e = absurd (apart (sym is ∙ e))
  where
    apart : Words ≡ WriteFault → ⊥
    apart same = cc
run_write_fault M reads reads_now writes writes_now o (inr h) e = cause_of_write M reads reads_now writes writes_now o h e

pub run_fault_or_none : (M : Type 0) (reads reads_now writes writes_now : ℕ) (o : Outcome) → (o ≡ Words) ⊎ HasCauses M reads reads_now writes writes_now o →
    (o ≡ Words → (reads_now ≡ reads) × (writes_now ≡ writes)) → IsFault o ⊎ ((reads_now ≡ reads) × (writes_now ≡ writes))
run_fault_or_none M reads reads_now writes writes_now o (inl is) kept = inr (kept is)
run_fault_or_none M reads reads_now writes writes_now o (inr h) kept = fault_or_none M reads reads_now writes writes_now o h

-- what is missed, for another way to say it
pub missed_for : (A M N : Type 0) → (M → N) → A ⊎ M → A ⊎ N
missed_for A M N f (inl a) = inl a
missed_for A M N f (inr m) = inr (f m)
