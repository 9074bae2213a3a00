use Rattle.std.proofs.Common.{◌≡◌, map, take}
use Rattle.grammar_laws.specs.Trees.{items_of}
use Rattle.schema_tree.specs.Trees.{item_of}
use Rattle.simple_form_laws.specs.Parts.{entries}
use Rattle.tree_graph.specs.Tables.{with_entries}
use Rattle.tree_graph.proofs.defined_names.DefinedNames.+items.Given as goal

-- the names of the items so far
abbrev pub invariant-loop-item : goal.invariant-loop-item
invariant-loop-item l = l.self ≡ with_entries l.initial.self (entries (items_of (map item_of (take l.item-index l.items))))
