use Rattle.std.proofs.Common.{◌≡◌, ◌+◌, length}
use Rattle.tree_graph.specs.States.{Reserved}
use Rattle.tree_graph.proofs.table.begin_definitions.Given as goal

-- so many have numbers
abbrev pub invariant-loop : goal.invariant-loop
invariant-loop l = (length l.parts.definitions ≡ length l.initial.parts.definitions + l.counter) × Reserved l.initial.parts l.parts
