use Rattle.table_laws.proofs.Levels.{least_zero, least_new, least_once, least_step}
use Rattle.table_laws.proofs.Decided.{least_exists}
use Rattle.table_laws.proofs.least_counts.Goals as goal

pub returns-clause-exist : goal.returns-clause-exist
returns-clause-exist c = least_exists

pub returns-clause-once : goal.returns-clause-once
returns-clause-once c = least_once

pub returns-clause-zero : goal.returns-clause-zero
returns-clause-zero c = least_zero

pub returns-clause-new : goal.returns-clause-new
returns-clause-new c = least_new

pub returns-clause-step : goal.returns-clause-step
returns-clause-step c = least_step
