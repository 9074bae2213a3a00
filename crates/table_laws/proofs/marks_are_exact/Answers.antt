use Rattle.table_laws.specs.Finishing.{is_marked}
use Rattle.table_laws.proofs.Marks.{mark_next, marks_are_exact}
use Rattle.table_laws.proofs.marks_are_exact.Goals as goal

pub returns-clause-next : goal.returns-clause-next
returns-clause-next c = λ g u mark. mark_next g u (is_marked mark)

pub returns-clause-all : goal.returns-clause-all
returns-clause-all c = λ g u m mark. marks_are_exact g u m (is_marked mark)
