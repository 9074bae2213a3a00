use Rattle.std.proofs.Common.{◌≡◌, map, take}
use Rattle.grammar_laws.specs.Trees.{patterns_of, items_of}
use Rattle.schema_tree.specs.Trees.{pattern_of, item_of}
use Rattle.simple_form_laws.specs.Parts.{Scope, parts_of_list, parts_of_items}
use Rattle.tree_faults.specs.Names.{joined, name_faults}
use Rattle.tree_faults.proofs.names.+names.Given as goal

-- the faults in the members so far
abbrev pub invariant-in_members-loop-member : goal.invariant-in_members-loop-member
invariant-in_members-loop-member l = (s : Scope) → l.found ≡ joined l.initial.found (name_faults l.names (parts_of_list s (patterns_of (map pattern_of (take l.member-index l.members)))))

abbrev pub invariant-in_items-loop-item : goal.invariant-in_items-loop-item
invariant-in_items-loop-item l = (s : Scope) → l.found ≡ joined l.initial.found (name_faults l.names (parts_of_items s (items_of (map item_of (take l.item-index l.items)))))
