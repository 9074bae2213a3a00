use Rattle.std.proofs.Common.{List, map, ap, sym, ◌∙◌, arith}
use Rattle.rng_model.specs.Texts.{Text}
use Rattle.grammar_laws.specs.Trees as tree
use Rattle.schema_tree.specs.declared.tree.Item.{Item}
use Rattle.schema_tree.specs.Trees.{item_of}
use Rattle.schema_tree.proofs.Folds.{item_start, item_define, item_div, item_include}
use Rattle.simple_form_laws.specs.Parts.{entries, entries_in}
use Rattle.tree_graph.specs.Tables.{with_name, with_entries}
use Rattle.tree_graph.proofs.Names.{names_more}
use Rattle.tree_graph.proofs.defined_names.DefinedNames.+items.Goals as goal
use Rattle.tree_graph.proofs.defined_names.DefinedNames.+items.Goals.{in-Define+in_ok-add-in-Define, in-Div+in_ok-add_items-in-Div, in-Start, in-Include}

pub loop-item-preserved : goal.loop-item-preserved
loop-item-preserved t c =
    names_more item_of c.args.self.now c.loop-item.self c.match-item.self c.args.items.now c.loop-item.item-index c.item-item.result (omega arith) c.item-item.is c.loop-item.invariant
    (elim c.match-item.branch [
      | in-Define+in_ok-add-in-Define w ↦
          rw w.self-is (w.in_ok-add-in-Define.ensures ∙ ap (λ (n : Text). with_name c.loop-item.self n) w.as_str.ensures
          ∙ ap (λ (z : tree.Item). with_entries c.loop-item.self (entries_in z)) (sym (ap item_of w.in-Define.is ∙ item_define _ _ _ _)))
      | in-Div+in_ok-add_items-in-Div w ↦
          rw w.self-is (w.in_ok-add_items-in-Div.ensures ∙ ap (λ (l : List Item). with_entries c.loop-item.self (entries (tree.items_of (map item_of l)))) w.as_slice.ensures
          ∙ ap (λ (z : tree.Item). with_entries c.loop-item.self (entries_in z)) (sym (ap item_of w.in-Div.is ∙ item_div _)))
      | in-Start w ↦ rw w.self-is (ap (λ (z : tree.Item). with_entries c.loop-item.self (entries_in z)) (sym (ap item_of w.in-Start.is ∙ item_start _ _ _)))
      | in-Include w ↦ rw w.self-is (ap (λ (z : tree.Item). with_entries c.loop-item.self (entries_in z)) (sym (ap item_of w.in-Include.is ∙ item_include _ _ _ _)))
    ])
