use Rattle.std.proofs.Common.{arith}
use Rattle.tree_graph.proofs.Ranking.{pairs_more}
use Rattle.tree_graph.proofs.tokens.paired.Goals as goal

pub loop-position-preserved : goal.loop-position-preserved
loop-position-preserved c = pairs_more c.args.places.now c.loop-position.position c.loop-position.pairs.items c.push.new.self.items (omega arith) c.loop-position.invariant c.in_ok-push.ensures.items
