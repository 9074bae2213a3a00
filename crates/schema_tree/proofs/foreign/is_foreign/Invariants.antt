use Rattle.std.proofs.Common.{length, map}
use Rattle.schema_tree.specs.Trees.{declaration_of}
use Rattle.schema_tree.proofs.Walks.{Decides}
use Rattle.schema_tree.proofs.foreign.is_foreign.Given as goal

abbrev pub invariant-loop-first : goal.invariant-loop-first
invariant-loop-first l = Decides (map declaration_of l.fn.declarations) (map declaration_of l.rest) l.fn.prefix l.fn.local

abbrev pub decreases-loop-first : goal.decreases-loop-first
decreases-loop-first l = length l.rest
