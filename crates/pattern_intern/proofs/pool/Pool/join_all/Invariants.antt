-- The last members are joined.
use Rattle.std.proofs.Common.{◌++◌, length}
use Rattle.rng_model.specs.Constructors.{members}
use Rattle.pattern_intern.specs.Members.{trees_at}
use Rattle.pattern_intern.specs.Stored.{tree_at}
use Rattle.pattern_intern.proofs.Least.{IsJoining}
use Rattle.pattern_intern.proofs.pool.Pool.join_all.Given as goal

abbrev pub invariant-loop-first : goal.invariant-loop-first
invariant-loop-first l = IsJoining l.fn.self l.self (trees_at l.fn.self l.fn.taken.items ++ members (tree_at l.fn.self l.fn.others.0)) l.taken.items l.rest.0

abbrev pub decreases-loop-first : goal.decreases-loop-first
decreases-loop-first l = length l.taken.items
