use Rattle.std.proofs.Common.{arith}
use Rattle.pattern_intern.proofs.Collected.{begun_more, gathering_start}
use Rattle.pattern_intern.proofs.pool.Pool.begin.Goals as goal

pub loop-k-preserved : goal.loop-k-preserved
loop-k-preserved c = begun_more _ c.loop-k.k _ _ _ c.loop-k.invariant (omega arith) c.in_ok-insert.ensures.keys c.insert.ensures.unique

pub returns : goal.returns
returns c = gathering_start c.args.self.now _ _ c.loop-k.k c.requires (omega arith) c.loop-k.invariant
