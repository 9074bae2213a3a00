use Rattle.std.proofs.Common.{◌≡◌, ◌++◌, length, map, take, drop}
use Rattle.transitions.proofs.marks.Marks.cut.Given as goal

abbrev pub invariant-loop-place : goal.invariant-loop-place
invariant-loop-place l =
    (l.self-inside.words ≡ l.initial.self-inside.words) × (length l.self-inside.lists.items ≡ length l.initial.self-inside.lists.items)
    × (l.self-inside.lists.items ≡ map (take l.count) (take l.place l.initial.self-inside.lists.items) ++ drop l.place l.initial.self-inside.lists.items)
