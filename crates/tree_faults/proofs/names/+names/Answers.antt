use Rattle.std.proofs.Common.{arith, map, ◌∷◌}
use Rattle.grammar_laws.specs.Trees.{items_of}
use Rattle.schema_tree.specs.Trees.{class_of, pattern_of, item_of, type_of}
use Rattle.simple_form_laws.specs.ClassForms.{OfElement, OfAttribute}
use Rattle.simple_form_laws.specs.Parts.{parts_of}
use Rattle.tree_faults.specs.Names.{faults_of_class, faults_of_type, joined, name_faults}
use Rattle.tree_faults.proofs.Arms.{group_is, choice_is, interleave_is, grammar_is, div_is, element_is, attribute_is, except_is}
use Rattle.tree_faults.proofs.Joins.{joined_assoc, names_append}
use Rattle.tree_faults.proofs.Walks.{behind, member_more, item_more}
use Rattle.tree_faults.proofs.names.+names.Goals as goal

pub in_members-loop-member-preserved : goal.in_members-loop-member-preserved
in_members-loop-member-preserved t c = λ s.
    member_more joined (name_faults c.args.names.now) (names_append c.args.names.now) joined_assoc pattern_of s c.args.found c.loop-member.found c.in_pattern-found.result
    c.args.members.now c.loop-member.member-index c.member-item.result (omega arith) c.member-item.is (c.loop-member.invariant s) (c.in_pattern-found.ensures s)

pub in_items-loop-item-preserved : goal.in_items-loop-item-preserved
in_items-loop-item-preserved t c = λ s.
    item_more joined (name_faults c.args.names.now) (names_append c.args.names.now) joined_assoc item_of s c.args.found c.loop-item.found c.in_item-found.result
    c.args.items.now c.loop-item.item-index c.item-item.result (omega arith) c.item-item.is (c.loop-item.invariant s) (c.in_item-found.ensures s)

pub in_item-returns-in-Div : goal.in_item-returns-in-Div
in_item-returns-in-Div t c = λ s. rw (div_is _ _ _ c.in-Div.is c.as_slice.ensures) (c.in_items.ensures s)

pub in_pattern-returns-in-Group : goal.in_pattern-returns-in-Group
in_pattern-returns-in-Group t c = λ s. rw (group_is _ _ _ c.in-Group.is c.as_slice.ensures) (c.in_members.ensures s)

pub in_pattern-returns-in-Choice : goal.in_pattern-returns-in-Choice
in_pattern-returns-in-Choice t c = λ s. rw (choice_is _ _ _ c.in-Choice.is c.as_slice-in-Choice.ensures) (c.in_members-in-Choice.ensures s)

pub in_pattern-returns-in-Interleave : goal.in_pattern-returns-in-Interleave
in_pattern-returns-in-Interleave t c = λ s. rw (interleave_is _ _ _ c.in-Interleave.is c.as_slice-in-Interleave.ensures) (c.in_members-in-Interleave.ensures s)

pub in_pattern-returns-in-Grammar : goal.in_pattern-returns-in-Grammar
in_pattern-returns-in-Grammar t c = λ s. rw (grammar_is _ _ _ c.in-Grammar.is c.as_slice-in-Grammar.ensures) (c.in_items.ensures (items_of (map item_of c.as_slice-in-Grammar.result.now) ∷ s))

pub in_pattern-returns-in-Element : goal.in_pattern-returns-in-Element
in_pattern-returns-in-Element t c = λ s.
    rw (element_is _ _ _ _ _ c.in-Element.is c.get.ensures)
    (behind joined (name_faults c.args.names.now) (names_append c.args.names.now) joined_assoc c.args.found (faults_of_class c.args.names.now OfElement (class_of c.in-Element.class)) c.joined-found.result c.in_pattern.result
    (name_faults c.args.names.now (parts_of s (pattern_of c.get.result.now))) c.of_class.result c.joined-found.ensures c.of_class.ensures (c.in_pattern.ensures s))

pub in_pattern-returns-in-Attribute : goal.in_pattern-returns-in-Attribute
in_pattern-returns-in-Attribute t c = λ s.
    rw (attribute_is _ _ _ _ _ c.in-Attribute.is c.get-in-Attribute.ensures)
    (behind joined (name_faults c.args.names.now) (names_append c.args.names.now) joined_assoc c.args.found (faults_of_class c.args.names.now OfAttribute (class_of c.in-Attribute.class)) c.joined-found-in-Attribute.result c.in_pattern-in-Attribute.result
    (name_faults c.args.names.now (parts_of s (pattern_of c.get-in-Attribute.result.now))) c.of_class-in-Attribute.result c.joined-found-in-Attribute.ensures c.of_class-in-Attribute.ensures (c.in_pattern-in-Attribute.ensures s))

pub in_pattern-returns-in-Some : goal.in_pattern-returns-in-Some
in_pattern-returns-in-Some t c = λ s.
    rw (except_is _ _ _ _ _ _ c.in-DataType.is c.in-Some.is c.get-in-Some.ensures)
    (behind joined (name_faults c.args.names.now) (names_append c.args.names.now) joined_assoc c.args.found (faults_of_type c.args.names.now (type_of c.in-DataType.of)) c.joined-found-in-DataType.result c.in_pattern-in-Some.result
    (name_faults c.args.names.now (parts_of s (pattern_of c.get-in-Some.result.now))) c.of_type.result c.joined-found-in-DataType.ensures c.of_type.ensures (c.in_pattern-in-Some.ensures s))
