use Rattle.std.proofs.Common.{◌≡◌, ◌+◌, length, map}
use Rattle.schema_tree.specs.Files.{number_at, file_of}
use Rattle.schema_tree.proofs.files.number_in.Given as goal

abbrev pub invariant-loop-first : goal.invariant-loop-first
invariant-loop-first l =
    (number_at (map file_of l.fn.entries) l.fn.place ≡ l.number + number_at (map file_of l.rest) l.left) ×
    (l.number + length l.rest ≡ length l.fn.entries)

abbrev pub decreases-loop-first : goal.decreases-loop-first
decreases-loop-first l = length l.rest
