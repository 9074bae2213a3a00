use Rattle.std.proofs.Common.{refl, subst, arith, take_all}
use Rattle.derivatives.proofs.Gathered.{AreGrown, grown_none, grown_more}
use Rattle.derivatives.proofs.gathering.grow_all.Goals as goal

pub loop-remainder-init : goal.loop-remainder-init
loop-remainder-init c = grown_none _ _ _

pub loop-remainder-preserved : goal.loop-remainder-preserved
loop-remainder-preserved c =
    grown_more _ _ _ _ _ _ _ _ _ _ _ _ c.requires.within c.requires.part (omega arith) refl c.loop-remainder.invariant
    c.one.ensures.kept c.one.ensures.schema c.in_ok-rest.ensures.within c.in_ok-rest.ensures.made c.in_ok-add.ensures

pub returns-clause-gathers : goal.returns-clause-gathers
returns-clause-gathers c =
    (subst (λ xs. AreGrown c.args.schema.now c.loop-remainder.schema c.args.by xs c.args.made.now c.loop-remainder.made) (take_all _ _ (omega arith))
    c.loop-remainder.invariant).gathers
