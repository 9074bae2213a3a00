-- Each extra text is put.
use Rattle.text_atoms.proofs.Extending.{put_next, put_slice, put_nothing}
use Rattle.text_atoms.proofs.origins.put_extra.Goals as goal

pub loop-text-init : goal.loop-text-init
loop-text-init c = put_nothing _ _

pub loop-text-preserved : goal.loop-text-preserved
loop-text-preserved c =
    put_next _ _ _ _ c.args.extra.now c.loop-text.text-index c.text-item.result c.loop-text-test.true c.text-item.is c.loop-text.invariant (rw c.in_ok-copy.ensures at c.in_ok-put.ensures)

pub returns : goal.returns
returns c = put_slice _ _ _ c.args.extra.now c.loop-text.text-index c.loop-text-test.false c.loop-text.invariant
