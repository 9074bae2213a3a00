use Rattle.std.proofs.Common.{◌≡◌}
use Rattle.transitions.specs.Marked.{IsBlock, end_of}
use Rattle.transitions.proofs.marks.Marks.block.Given as goal

abbrev pub ghost-node_mark : goal.ghost-node_mark
ghost-node_mark g a = g.of

abbrev pub invariant-loop-id : goal.invariant-loop-id
invariant-loop-id g l = IsBlock g.of l.block × (end_of l.block ≡ l.id) × (l.block.rest ≡ l.rest) × (l.block.start ≡ l.start)
