use Rattle.derivative_laws.proofs.CodesLaw.{acceptance}
use Rattle.derivative_laws.proofs.acceptance_is_matching.Goals as goal

pub returns-clause-universe : goal.returns-clause-universe
returns-clause-universe c = λ g fresh extra u unbroken are. acceptance g u unbroken are.attributes.ascending

pub returns-clause-lists : goal.returns-clause-lists
returns-clause-lists c = acceptance
