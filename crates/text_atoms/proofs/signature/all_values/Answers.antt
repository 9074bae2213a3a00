-- One kind more.
use Rattle.text_atoms.proofs.Signatures.{all_more}
use Rattle.text_atoms.proofs.signature.all_values.Goals as goal

pub loop-kind-preserved : goal.loop-kind-preserved
loop-kind-preserved c = all_more c.args.literals.now c.args.kinds.now c.loop-kind.kind-index _ _ _ _ c.loop-kind-test.true c.loop-kind.invariant c.in_ok-values_of.ensures c.in_ok-push.ensures.items
