use Rattle.restrictions.proofs.Words.{in_all}
use Rattle.restrictions.proofs.name_set.NameSet.all.Goals as goal

pub returns : goal.returns
returns c = in_all
