use Rattle.table_laws.proofs.Exact.{can_finish_exact}
use Rattle.table_laws.proofs.finishing_is_exact.Goals as goal

pub returns : goal.returns
returns c = λ g u are. can_finish_exact g u are.unbroken are.simple are.ascend are.alphabet
