use Rattle.std.proofs.Common.{suc, ◌≤◌, length}
use Rattle.tree_graph.specs.Combined.{AreGroups, AreDefinedFrom}
use Rattle.tree_graph.proofs.combining.combine.Given as goal

-- from the first that is left, the definitions have nodes
abbrev pub invariant-loop-group : goal.invariant-loop-group
invariant-loop-group l = record {
  few : length l.groups.items ≤ suc (length l.table.names);
  groups : AreGroups l.first l.entries l.groups.items;
  defined : AreDefinedFrom (length l.groups.items) l.first (suc (length l.table.names)) l.entries l.initial.parts l.parts;
}

abbrev pub decreases-loop-group : goal.decreases-loop-group
decreases-loop-group l = length l.groups.items
