-- One mark more.
use Rattle.text_atoms.proofs.Signatures.{mark_more}
use Rattle.text_atoms.proofs.signature.Signature.of.Goals as goal

pub loop-values-preserved : goal.loop-values-preserved
loop-values-preserved c = mark_more c.args.all.now c.args.text.now c.loop-values.values-index c.values-item.result _ _ c.loop-values-test.true c.values-item.is c.loop-values.invariant c.in_ok-push_mark.ensures
