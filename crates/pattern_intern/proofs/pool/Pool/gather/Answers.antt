use Rattle.std.proofs.Common.{arith}
use Rattle.pattern_intern.proofs.Collected.{few}
use Rattle.pattern_intern.proofs.pool.Pool.gather.Goals as goal

pub loop-next-smaller : goal.loop-next-smaller
loop-next-smaller c = let l = few c.args.self.now c.loop-next.found.keys c.loop-next.invariant.within c.loop-next.invariant.distinct in let m = c.loop-next-test.true in omega (arith, c.len.ensures.len)
