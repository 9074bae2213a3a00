use Rattle.table_laws.proofs.Nexts.{first_is, next_is, last_is, none_is}
use Rattle.table_laws.proofs.walks.Goals as goal

pub returns-clause-first : goal.returns-clause-first
returns-clause-first c = λ g u are. first_is g u are.unbroken are.simple are.ascend are.alphabet

pub returns-clause-next : goal.returns-clause-next
returns-clause-next c = λ g u are. next_is g u are.unbroken are.simple are.ascend are.alphabet

pub returns-clause-last : goal.returns-clause-last
returns-clause-last c = last_is

pub returns-clause-none : goal.returns-clause-none
returns-clause-none c = λ g u are. none_is g u are.unbroken are.simple are.ascend are.alphabet
