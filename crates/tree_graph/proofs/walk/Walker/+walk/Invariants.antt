use Rattle.std.proofs.Common.{map, drop}
use Rattle.grammar_laws.specs.Trees.{patterns_of, items_of}
use Rattle.schema_tree.specs.Trees.{pattern_of, item_of}
use Rattle.tree_graph.proofs.Members.{AreLeft}
use Rattle.tree_graph.proofs.ItemLists.{AreItemsLeft}
use Rattle.tree_graph.proofs.walk.Walker.+walk.Given as goal

-- the members that are left can be walked on
abbrev pub invariant-members-loop-member : goal.invariant-members-loop-member
invariant-members-loop-member l =
    AreLeft l.self.names.now l.self.tokens.now l.self.inner.now l.self.outer.now l.initial.parts (patterns_of (map pattern_of l.members)) l.parts l.numbers (patterns_of (map pattern_of (drop l.member-index l.members)))

-- the items that are left can be walked on
abbrev pub invariant-items-loop-item : goal.invariant-items-loop-item
invariant-items-loop-item l =
    AreItemsLeft l.self.names.now l.self.tokens.now l.self.inner.now l.self.outer.now l.initial.parts (items_of (map item_of l.items)) l.initial.entries.items l.parts l.entries.items (items_of (map item_of (drop l.item-index l.items)))
