use Rattle.derivatives.proofs.Adding.{added_one, same_remainder}
use Rattle.derivatives.proofs.remainder_set.RemainderSet.add.Goals as goal

pub returns : goal.returns
returns c = rw (← c.self.view_is) (added_one _ same_remainder _ _ _ c.in_ok-insert.ensures.keys)
