use Rattle.std.proofs.Common.{◌∷◌, map, arith}
use Rattle.std.proofs.lemmas.Result.{IfOk-weaker}
use Rattle.grammar_laws.specs.Trees.{items_of}
use Rattle.schema_tree.specs.Trees.{pattern_of, item_of}
use Rattle.simple_form_laws.specs.Parts.{parts_of_items}
use Rattle.tree_faults.specs.Grammars.{faults_of_items, grammar_faults, joined}
use Rattle.tree_faults.proofs.GrammarJoins.{fits_inside, grammars_append, joined_assoc}
use Rattle.tree_faults.proofs.Walks.{behind, member_more, item_more}
use Rattle.tree_faults.proofs.grammars.+grammars.Goals as goal

pub in_members-loop-member-preserved : goal.in_members-loop-member-preserved
in_members-loop-member-preserved t c = λ s f.
    member_more joined grammar_faults grammars_append joined_assoc pattern_of s c.args.found c.loop-member.found c.in_ok-found.found
    c.args.members.now c.loop-member.member-index c.member-item.result (omega arith) c.member-item.is (c.loop-member.invariant s f) (c.in_ok-found.ensures s f)

pub in_items-loop-item-preserved : goal.in_items-loop-item-preserved
in_items-loop-item-preserved t c = λ s f.
    item_more joined grammar_faults grammars_append joined_assoc item_of s c.args.found c.loop-item.found c.in_ok-found.found
    c.args.items.now c.loop-item.item-index c.item-item.result (omega arith) c.item-item.is (c.loop-item.invariant s f) (c.in_ok-found.ensures s f)

pub in_grammar-returns : goal.in_grammar-returns
in_grammar-returns t c =
    let is = items_of (map item_of c.args.items.now) in
    IfOk-weaker c.in_items.result _ _
    (λ r h outer s f.
    behind joined grammar_faults grammars_append joined_assoc c.args.found (faults_of_items is) c.joined-found.result r (grammar_faults (parts_of_items (is ∷ s) is)) c.of_entries.result
    c.joined-found.ensures (c.of_entries.ensures is c.in_ok-entries.ensures) (h (is ∷ s) (fits_inside c.in_ok-entries.entries _ outer s is c.in_ok-entries.ensures f)))
    c.in_items.ensures
