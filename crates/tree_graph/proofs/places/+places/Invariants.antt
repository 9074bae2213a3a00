use Rattle.std.proofs.Common.{◌≡◌, ◌++◌, map, take}
use Rattle.grammar_laws.specs.Trees.{patterns_of, items_of}
use Rattle.schema_tree.specs.Trees.{pattern_of, item_of}
use Rattle.simple_form_laws.specs.Forms.{places_in_list, places_in_items}
use Rattle.tree_graph.proofs.places.+places.Given as goal

-- the places in the members so far
abbrev pub invariant-add_places_in_list-loop-member : goal.invariant-add_places_in_list-loop-member
invariant-add_places_in_list-loop-member l = l.places.items ≡ l.initial.places.items ++ places_in_list (patterns_of (map pattern_of (take l.member-index l.members)))

abbrev pub invariant-add_places_in_items-loop-item : goal.invariant-add_places_in_items-loop-item
invariant-add_places_in_items-loop-item l = l.places.items ≡ l.initial.places.items ++ places_in_items (items_of (map item_of (take l.item-index l.items)))
