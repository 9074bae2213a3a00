use Rattle.std.proofs.Common.{◌+◌, arith, sym, subst}
use Rattle.kept_elements.specs.Numbering.{AreMade}
use Rattle.kept_elements.proofs.Remaking.{made_more, made_all}
use Rattle.kept_elements.proofs.renumber.remake_all.Goals as goal

pub loop-id-preserved : goal.loop-id-preserved
loop-id-preserved c =
    subst (AreMade c.args.old.now c.remake_marked.new.pool c.args.kept.now c.args.marks.now (c.loop-id.id + 1)) (sym c.in_ok-push.ensures.items)
    (made_more c.args.old.now c.args.kept.now c.args.marks.now c.loop-id.pool c.remake_marked.new.pool c.loop-id.id c.loop-id.made.items c.in_ok-new.new c.loop-id.invariant c.in_ok-new.ensures.kept
    c.in_ok-new.ensures.refs c.in_ok-new.ensures.made)

pub returns : goal.returns
returns c = made_all c.args.old.now c.args.kept.now c.args.marks.now c.loop-id.pool c.loop-id.id c.loop-id.made.items (omega (arith, c.loop-id-test.false)) c.loop-id.invariant
