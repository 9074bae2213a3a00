use Rattle.std.proofs.Common.{arith, refl, subst, take_all}
use Rattle.derivatives.specs.Remainders.{AreAdded}
use Rattle.derivatives.proofs.Adding.{added_none, added_more}
use Rattle.derivatives.proofs.remainder_set.RemainderSet.add_all.Goals as goal

pub loop-remainder-init : goal.loop-remainder-init
loop-remainder-init c = added_none _

pub loop-remainder-preserved : goal.loop-remainder-preserved
loop-remainder-preserved c = added_more _ _ _ _ _ _ _ (omega arith) refl c.loop-remainder.invariant c.in_ok-add.ensures

pub returns : goal.returns
returns c = subst (λ xs. AreAdded xs c.args.self.now c.loop-remainder.self) (take_all _ _ (omega arith)) c.loop-remainder.invariant
