use Rattle.std.proofs.Common.{length, map}
use Rattle.schema_tree.specs.Trees.{declaration_of}
use Rattle.rnc_parser.proofs.Lists.{DeclarationsAt}
use Rattle.rnc_parser.proofs.prologue.declarations.Given as goal

abbrev pub invariant-loop-alloc : goal.invariant-loop-alloc
invariant-loop-alloc l = DeclarationsAt l.fn.tokens l.tokens (map declaration_of l.found)

abbrev pub decreases-loop-alloc : goal.decreases-loop-alloc
decreases-loop-alloc l = length l.tokens
