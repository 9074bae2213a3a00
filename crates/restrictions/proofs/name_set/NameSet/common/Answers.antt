use Rattle.restrictions.proofs.Words.{in_both}
use Rattle.restrictions.proofs.name_set.NameSet.common.Goals as goal

pub returns : goal.returns
returns c = in_both c.args.self.bits c.args.other.bits
