use Rattle.std.proofs.Common.{rules}
use Rattle.std.proofs.lemmas.Option.{slice_get-get_or}
use Rattle.pattern_intern.proofs.pool.Pool.facts_at.Goals as goal

pub returns-clause-facts : goal.returns-clause-facts
returns-clause-facts c = rw (← c.self.view_is, c.as_slice.ensures.value) (c.self.invariant.described c.args.id.0 _ (slice_get-get_or c.self.inside.facts.items c.args.id.0 _ (search rules)))
