use Rattle.std.proofs.Common.{refl}
use Rattle.summary.proofs.Counting.{none_counted}
use Rattle.summary.proofs.tally.Tally.new.Goals as goal

pub returns : goal.returns
returns c = none_counted _ refl refl refl
