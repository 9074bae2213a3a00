use Rattle.std.proofs.Common.{arith}
use Rattle.restrictions.proofs.Words.{in_rest}
use Rattle.restrictions.proofs.name_set.NameSet.without.Goals as goal

pub returns : goal.returns
returns c = λ k l. in_rest c.args.self.bits c.args.other.bits k (omega (arith, c.well_formed)) l
