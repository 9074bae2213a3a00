use Rattle.std.proofs.Common.{List, ◌++◌, map, take}
use Rattle.grammar_laws.specs.Trees.{items_of}
use Rattle.schema_tree.specs.Trees.{item_of}
use Rattle.simple_form_laws.specs.Parts.{Entry, entries}
use Rattle.tree_faults.specs.Entries.{Holds}
use Rattle.tree_faults.proofs.entries.Entries.+items.Given as goal

-- the items so far are read
abbrev pub invariant-add_items-loop-item : goal.invariant-add_items-loop-item
invariant-add_items-loop-item l = (es : List Entry) → Holds l.initial.self es → Holds l.self (es ++ entries (items_of (map item_of (take l.item-index l.items))))
