use Rattle.list_command.proofs.Causes.{run_read_fault, run_write_fault, run_fault_or_none}
use Rattle.list_command.proofs.whole_run.run.Goals as goal

pub returns-clause-words : goal.returns-clause-words
returns-clause-words g c = rw (← c.as_slice.ensures.value) c.obey-outcome.ensures.words

pub returns-clause-read_fault : goal.returns-clause-read_fault
returns-clause-read_fault g c = rw (← c.as_slice.ensures.value) (run_read_fault _ _ _ _ _ c.obey-outcome.result c.obey-outcome.ensures.cause)

pub returns-clause-write_fault : goal.returns-clause-write_fault
returns-clause-write_fault g c = run_write_fault _ _ _ _ _ c.obey-outcome.result c.obey-outcome.ensures.cause

pub returns-clause-no_fault : goal.returns-clause-no_fault
returns-clause-no_fault g c = run_fault_or_none _ _ _ _ _ c.obey-outcome.result c.obey-outcome.ensures.cause c.obey-outcome.ensures.kept

pub returns-clause-whole : goal.returns-clause-whole
returns-clause-whole g c =
    rw (← c.as_slice.ensures.value) (λ files told. c.fitting_runs_are_whole.ensures _ files _ _ _ _ _ _ _ (c.obey-outcome.ensures.owed files told))

pub returns-clause-lists : goal.returns-clause-lists
returns-clause-lists g c = rw (← c.as_slice.ensures.value) c.obey-outcome.ensures.lists

pub returns-clause-sums : goal.returns-clause-sums
returns-clause-sums g c = rw (← c.as_slice.ensures.value) c.obey-outcome.ensures.sums

pub returns-clause-formless : goal.returns-clause-formless
returns-clause-formless g c = rw (← c.as_slice.ensures.value) c.obey-outcome.ensures.formless
