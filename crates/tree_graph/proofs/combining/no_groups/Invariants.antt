use Rattle.std.proofs.Common.{◌≡◌, [], length}
use Rattle.tree_graph.specs.Combined.{AreGroups}
use Rattle.tree_graph.proofs.combining.no_groups.Given as goal

-- so many definitions without entries
abbrev pub invariant-loop : goal.invariant-loop
invariant-loop l = (length l.groups.items ≡ l.counter) × AreGroups l.first [] l.groups.items
