-- The members among the first are taken.
use Rattle.std.proofs.Common.{◌≡◌, take, filter}
use Rattle.pattern_intern.specs.Gathered.{is_member}
use Rattle.pattern_intern.specs.Stored.{tree_at}
use Rattle.pattern_intern.specs.declared.id.PatternId.{PatternId}
use Rattle.pattern_intern.proofs.pool.Pool.members_among.Given as goal

abbrev pub invariant-loop-k : goal.invariant-loop-k
invariant-loop-k l = l.taken.items ≡ filter (λ (id : PatternId). is_member (tree_at l.self id.0)) (take l.k l.found)
