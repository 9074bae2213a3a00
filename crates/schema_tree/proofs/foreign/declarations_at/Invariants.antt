use Rattle.std.proofs.Common.{◌≡◌, length, map}
use Rattle.schema_tree.specs.Features.{declarations_at}
use Rattle.schema_tree.specs.Files.{file_of}
use Rattle.schema_tree.proofs.foreign.declarations_at.Given as goal

abbrev pub invariant-loop-first : goal.invariant-loop-first
invariant-loop-first l = declarations_at (map file_of l.fn.files) l.fn.place ≡ declarations_at (map file_of l.rest) l.left

abbrev pub decreases-loop-first : goal.decreases-loop-first
decreases-loop-first l = length l.rest
