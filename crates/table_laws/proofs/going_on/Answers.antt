use Rattle.table_laws.proofs.ListedCodes.{goes_take, take_goes, goes_on_within, listed_alone, finish_take}
use Rattle.table_laws.proofs.Cursors.{finish_alive}
use Rattle.table_laws.proofs.going_on.Goals as goal

pub returns-clause-to : goal.returns-clause-to
returns-clause-to c = goes_take

pub returns-clause-from : goal.returns-clause-from
returns-clause-from c = take_goes

pub returns-clause-within : goal.returns-clause-within
returns-clause-within c = goes_on_within

pub returns-clause-alone : goal.returns-clause-alone
returns-clause-alone c = listed_alone

pub returns-clause-alive : goal.returns-clause-alive
returns-clause-alive c = finish_alive

pub returns-clause-some : goal.returns-clause-some
returns-clause-some c = finish_take
