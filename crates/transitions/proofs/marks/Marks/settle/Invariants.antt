use Rattle.std.proofs.Common.{◌≡◌, ◌<◌, length, set}
use Rattle.transitions.specs.Bits.{list_of}
use Rattle.transitions.specs.Marked.{AreMarks}
use Rattle.transitions.proofs.marks.Marks.settle.Given as goal

abbrev pub ghost-finishes : goal.ghost-finishes
ghost-finishes g a = g.of

abbrev pub invariant-loop-id : goal.invariant-loop-id
invariant-loop-id g l =
    AreMarks g.of l.block.rest (list_of l.self l.block.rest) × (length (list_of l.self l.block.rest) ≡ l.id) × (l.self ≡ set l.fn.self l.block.rest (list_of l.self l.block.rest))
    × (l.block.rest < length l.self)
