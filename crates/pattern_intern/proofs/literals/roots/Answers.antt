use Rattle.std.proofs.Common.{arith}
use Rattle.pattern_intern.proofs.Searching.{next_marked}
use Rattle.pattern_intern.proofs.literals.roots.Goals as goal

pub loop-k-preserved : goal.loop-k-preserved
loop-k-preserved c = next_marked _ _ c.args.elements.now c.loop-k.k _ (let a = c.loop-k-test.true in let b = c.len-k-end.ensures in omega (arith, a, b)) c.loop-k.invariant c.content.ensures
