use Rattle.restrictions.proofs.Words.{in_either}
use Rattle.restrictions.proofs.name_set.NameSet.union.Goals as goal

pub returns : goal.returns
returns c = in_either c.args.self.bits c.args.other.bits
