use Rattle.table_laws.proofs.Cursors.{begins_listed_to, begins_listed_from, begins_listed_coded, some_listed}
use Rattle.table_laws.proofs.beginnings.Goals as goal

pub returns-clause-to : goal.returns-clause-to
returns-clause-to c = begins_listed_to

pub returns-clause-from : goal.returns-clause-from
returns-clause-from c = begins_listed_from

pub returns-clause-coded : goal.returns-clause-coded
returns-clause-coded c = begins_listed_coded

pub returns-clause-some : goal.returns-clause-some
returns-clause-some c = λ g u are. some_listed g u are.unbroken are.ascend are.simple are.alphabet
