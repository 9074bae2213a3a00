use Rattle.std.proofs.Common.{◌≡◌, length, take}
use Rattle.tree_graph.specs.Combined.{AreGroups}
use Rattle.tree_graph.proofs.combining.grouped.Given as goal

-- the entries so far
abbrev pub invariant-loop-entry : goal.invariant-loop-entry
invariant-loop-entry l = (length l.groups.items ≡ l.count) × AreGroups l.first (take l.entry-index l.entries) l.groups.items
