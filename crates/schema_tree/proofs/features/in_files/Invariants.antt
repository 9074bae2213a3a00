use Rattle.std.proofs.Common.{length}
use Rattle.schema_tree.proofs.Walks.{FilesAt}
use Rattle.schema_tree.proofs.features.in_files.Given as goal

abbrev pub invariant-loop-first : goal.invariant-loop-first
invariant-loop-first l = FilesAt l.fn.references l.fn.files l.rest l.found

abbrev pub decreases-loop-first : goal.decreases-loop-first
decreases-loop-first l = length l.rest
