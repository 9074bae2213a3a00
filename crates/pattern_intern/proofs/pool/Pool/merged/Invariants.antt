-- The least members are taken; fewer are left.
use Rattle.pattern_intern.specs.Members.{member_count}
use Rattle.pattern_intern.specs.Stored.{tree_at}
use Rattle.pattern_intern.proofs.Least.{IsMerging}
use Rattle.pattern_intern.proofs.pool.Pool.merged.Given as goal

abbrev pub invariant-loop-first : goal.invariant-loop-first
invariant-loop-first l = IsMerging l.self (tree_at l.self l.fn.a.0) (tree_at l.self l.fn.b.0) l.taken.items l.left.0 l.right.0

abbrev pub decreases-loop-first : goal.decreases-loop-first
decreases-loop-first l = member_count l.self l.left.0 l.right.0
