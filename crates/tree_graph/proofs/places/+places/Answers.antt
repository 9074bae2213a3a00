use Rattle.std.proofs.Common.{List, ◌++◌, map, ap, sym, ◌∙◌, arith, append-nil}
use Rattle.grammar_laws.specs.Trees as tree
use Rattle.schema_tree.specs.declared.tree.Item.{Item}
use Rattle.schema_tree.specs.Trees.{pattern_of, item_of}
use Rattle.schema_tree.proofs.Folds.{item_start, item_define, item_div, item_include}
use Rattle.simple_form_laws.specs.Forms.{places_in_item, places_in_items}
use Rattle.tree_graph.proofs.PlaceLists.{member_more, item_more}
use Rattle.tree_graph.proofs.places.+places.Goals as goal
use Rattle.tree_graph.proofs.places.+places.Goals.{add_places_in_items-in-Start+in_ok-add_places-in-Start, add_places_in_items-in-Define+in_ok-add_places-in-Define, add_places_in_items-in-Div+in_ok-add_places_in_items-in-Div, add_places_in_items-in-Include}

pub add_places_in_list-loop-member-preserved : goal.add_places_in_list-loop-member-preserved
add_places_in_list-loop-member-preserved t c =
    member_more pattern_of c.args.places.now.items c.loop-member.places.items c.add_places.new.places.items c.args.members.now c.loop-member.member-index c.member-item.result (omega arith) c.member-item.is
    c.loop-member.invariant c.in_ok-add_places.ensures

pub add_places_in_items-loop-item-preserved : goal.add_places_in_items-loop-item-preserved
add_places_in_items-loop-item-preserved t c =
    item_more item_of c.args.places.now.items c.loop-item.places.items c.match-item.places.items c.args.items.now c.loop-item.item-index c.item-item.result (omega arith) c.item-item.is c.loop-item.invariant
    (elim c.match-item.branch [
      | add_places_in_items-in-Start+in_ok-add_places-in-Start w ↦
          rw w.places-is (w.in_ok-add_places-in-Start.ensures ∙ ap (λ (z : tree.Item). c.loop-item.places.items ++ places_in_item z) (sym (ap item_of w.in-Start.is ∙ item_start _ _ _)))
      | add_places_in_items-in-Define+in_ok-add_places-in-Define w ↦
          rw w.places-is (w.in_ok-add_places-in-Define.ensures ∙ ap (λ (z : tree.Item). c.loop-item.places.items ++ places_in_item z) (sym (ap item_of w.in-Define.is ∙ item_define _ _ _ _)))
      | add_places_in_items-in-Div+in_ok-add_places_in_items-in-Div w ↦
          rw w.places-is (w.in_ok-add_places_in_items-in-Div.ensures ∙ ap (λ (l : List Item). c.loop-item.places.items ++ places_in_items (tree.items_of (map item_of l))) w.as_slice.ensures
          ∙ ap (λ (z : tree.Item). c.loop-item.places.items ++ places_in_item z) (sym (ap item_of w.in-Div.is ∙ item_div _)))
      | add_places_in_items-in-Include w ↦
          rw w.places-is (sym (append-nil c.loop-item.places.items) ∙ ap (λ (z : tree.Item). c.loop-item.places.items ++ places_in_item z) (sym (ap item_of w.in-Include.is ∙ item_include _ _ _ _)))
    ])
