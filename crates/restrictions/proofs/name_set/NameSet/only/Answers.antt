use Rattle.restrictions.proofs.Words.{in_one, in_no_other}
use Rattle.restrictions.proofs.name_set.NameSet.only.Goals as goal

pub returns-clause-itself : goal.returns-clause-itself
returns-clause-itself c = in_one c.args.position c.requires

pub returns-clause-others : goal.returns-clause-others
returns-clause-others c = λ k n. in_no_other c.args.position k c.requires n
