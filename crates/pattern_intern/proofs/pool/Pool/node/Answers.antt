use Rattle.std.proofs.Common.{rules}
use Rattle.std.proofs.lemmas.Option.{slice_get-get_or}
use Rattle.pattern_intern.proofs.pool.Pool.node.Goals as goal

pub returns : goal.returns
returns c = rw (← c.self.view_is, c.as_slice.ensures.keys) (c.self.invariant.each c.args.id.0 _ (slice_get-get_or c.self.inside.nodes.keys c.args.id.0 _ (search rules)))
