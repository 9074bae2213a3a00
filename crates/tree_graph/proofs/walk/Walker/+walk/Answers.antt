use Rattle.std.proofs.Common.{Some, map, sym, ap, ◌∙◌, subst, arith, rules}
use denote.Param.Weighed.{at_most}
use Rattle.grammar_laws.specs.Trees.{patterns_of, items_of}
use Rattle.schema_tree.specs.Trees.{pattern_of, item_of}
use Rattle.schema_tree.specs.declared.tree.Item.TheViews.{size-Pattern}
use Rattle.schema_tree.specs.declared.tree.Item.TheViews as view
use Rattle.tree_graph.proofs.Members.{AreLeft, left_first, left_at, left_step, left_end}
use Rattle.tree_graph.proofs.ItemLists.{items_first, item_at, items_step, items_end}
use Rattle.tree_graph.proofs.Walking as by
use Rattle.tree_graph.proofs.walk.Walker.+walk.Goals as goal

pub members-loop-member-init : goal.members-loop-member-init
members-loop-member-init t c =
    subst (λ js. AreLeft c.args.self.now.names.now c.args.self.now.tokens.now c.args.self.now.inner.now c.args.self.now.outer.now c.args.parts.now (patterns_of (map pattern_of c.args.members.now)) c.args.parts.now js (patterns_of (map pattern_of c.args.members.now)))
    (sym c.new-numbers.ensures)
    (left_first c.args.self.now.names.now c.args.self.now.tokens.now c.args.self.now.inner.now c.args.self.now.outer.now c.args.parts.now (patterns_of (map pattern_of c.args.members.now)))

pub members-pattern-requires : goal.members-pattern-requires
members-pattern-requires t c = (
  search (rules, at_most, c.member-item.is),
  record {
    ready = left_at c.args.self.now.names.now c.args.self.now.tokens.now c.args.self.now.inner.now c.args.self.now.outer.now c.args.parts.now (patterns_of (map pattern_of c.args.members.now)) pattern_of
        c.loop-member.parts c.loop-member.numbers c.args.members.now c.loop-member.member-index c.member-item.result (omega arith) c.member-item.is c.requires.ready c.loop-member.invariant;
  },
)

pub members-loop-member-preserved : goal.members-loop-member-preserved
members-loop-member-preserved t c =
    left_step c.args.self.now.names.now c.args.self.now.tokens.now c.args.self.now.inner.now c.args.self.now.outer.now c.args.parts.now (patterns_of (map pattern_of c.args.members.now)) pattern_of
    c.loop-member.parts c.pattern.new.parts c.loop-member.numbers c.push.new.self c.args.members.now c.loop-member.member-index c.member-item.result c.in_ok-number.number (omega arith) c.member-item.is
    c.in_ok-push.ensures.ok c.loop-member.invariant c.in_ok-number.ensures.walked

pub members-returns : goal.members-returns
members-returns t c = record {
  walked = left_end c.args.self.now.names.now c.args.self.now.tokens.now c.args.self.now.inner.now c.args.self.now.outer.now c.args.parts.now (patterns_of (map pattern_of c.args.members.now)) pattern_of
      c.loop-member.parts c.loop-member.numbers c.args.members.now c.loop-member.member-index (omega arith) c.loop-member.invariant;
}

pub node-set_element_to_next-requires : goal.node-set_element_to_next-requires
node-set_element_to_next-requires t c =
    let l = by.node_there _ _ _ _ _ _ _ c.in-Element.is c.in_ok-position-in-Element.ensures.begun c.requires (by.walks_same _ _ _ c.get.ensures c.in_ok-content-in-Element.ensures) in
    let e = c.in_ok-position-in-Element.ensures.position in omega (arith, l, e)

pub node-number-number-requires : goal.node-number-number-requires
node-number-number-requires t c =
    let l = by.position_there _ _ _ _ c.in-Element.is c.requires in
    let e = c.in_ok-position-in-Element.ensures.position in omega (arith, l, e)

pub node-kind-kind-requires : goal.node-kind-kind-requires
node-kind-kind-requires t c = by.type_kind _ _ _ _ c.in-DataType.is c.requires

pub node-returns-in_ok-class-in-Element : goal.node-returns-in_ok-class-in-Element
node-returns-in_ok-class-in-Element t c =
    by.makes_element _ _ _ _ _ _ _ _ _ _ c.in-Element.is c.in_ok-position-in-Element.ensures.begun c.in_ok-position-in-Element.ensures.position c.set_element_to_next.ensures
    c.number-number.ensures.value c.number-number.ensures.within c.in_ok-class-in-Element.ensures c.requires (by.walks_same _ _ _ c.get.ensures c.in_ok-content-in-Element.ensures)

pub node-returns-in_ok-class-in-Attribute : goal.node-returns-in_ok-class-in-Attribute
node-returns-in_ok-class-in-Attribute t c =
    by.makes_attribute _ _ _ _ _ _ c.in-Attribute.is c.in_ok-class-in-Attribute.ensures c.requires (by.walks_same _ _ _ c.get-in-Attribute.ensures c.in_ok-content-in-Attribute.ensures)

pub node-returns-in_ok-members-in-Group : goal.node-returns-in_ok-members-in-Group
node-returns-in_ok-members-in-Group t c =
    by.makes_group _ _ _ c.in-Group.is c.requires (by.each_same _ _ _ c.as_slice.ensures c.in_ok-members-in-Group.ensures)

pub node-returns-in_ok-members-in-Choice : goal.node-returns-in_ok-members-in-Choice
node-returns-in_ok-members-in-Choice t c =
    by.makes_choice _ _ _ c.in-Choice.is c.requires (by.each_same _ _ _ c.as_slice-in-Choice.ensures c.in_ok-members-in-Choice.ensures)

pub node-returns-in_ok-members-in-Interleave : goal.node-returns-in_ok-members-in-Interleave
node-returns-in_ok-members-in-Interleave t c =
    by.makes_interleave _ _ _ c.in-Interleave.is c.requires (by.each_same _ _ _ c.as_slice-in-Interleave.ensures c.in_ok-members-in-Interleave.ensures)

pub node-returns-in_ok-pattern-in-Optional : goal.node-returns-in_ok-pattern-in-Optional
node-returns-in_ok-pattern-in-Optional t c = by.makes_optional _ _ _ c.in-Optional.is c.requires (by.walks_same _ _ _ c.get-in-Optional.ensures c.in_ok-pattern-in-Optional.ensures)

pub node-returns-in_ok-pattern-in-ZeroOrMore : goal.node-returns-in_ok-pattern-in-ZeroOrMore
node-returns-in_ok-pattern-in-ZeroOrMore t c = by.makes_zero_or_more _ _ _ c.in-ZeroOrMore.is c.requires (by.walks_same _ _ _ c.get-in-ZeroOrMore.ensures c.in_ok-pattern-in-ZeroOrMore.ensures)

pub node-returns-in_ok-pattern-in-OneOrMore : goal.node-returns-in_ok-pattern-in-OneOrMore
node-returns-in_ok-pattern-in-OneOrMore t c = by.makes_one_or_more _ _ _ c.in-OneOrMore.is c.requires (by.walks_same _ _ _ c.get-in-OneOrMore.ensures c.in_ok-pattern-in-OneOrMore.ensures)

pub node-returns-in_ok-pattern-in-Mixed : goal.node-returns-in_ok-pattern-in-Mixed
node-returns-in_ok-pattern-in-Mixed t c = by.makes_mixed _ _ _ c.in-Mixed.is c.requires (by.walks_same _ _ _ c.get-in-Mixed.ensures c.in_ok-pattern-in-Mixed.ensures)

pub node-returns-in-Ref : goal.node-returns-in-Ref
node-returns-in-Ref t c = by.makes_ref _ _ _ _ c.in-Ref.is c.reference.ensures c.requires

pub node-returns-in-Parent : goal.node-returns-in-Parent
node-returns-in-Parent t c = by.makes_parent _ _ _ _ c.in-Parent.is c.reference-in-Parent.ensures c.requires

pub node-returns-in-Empty : goal.node-returns-in-Empty
node-returns-in-Empty t c = by.makes_empty _ c.in-Empty.is c.requires

pub node-returns-in-AnyText : goal.node-returns-in-AnyText
node-returns-in-AnyText t c = by.makes_any_text _ c.in-AnyText.is c.requires

pub node-returns-in-NotAllowed : goal.node-returns-in-NotAllowed
node-returns-in-NotAllowed t c = by.makes_not_allowed _ c.in-NotAllowed.is c.requires

pub node-returns-in_ok-literal-in-Value : goal.node-returns-in_ok-literal-in-Value
node-returns-in_ok-literal-in-Value t c = by.makes_value _ _ _ _ _ c.in-Value.is c.in_ok-literal-in-Value.ensures c.value_kind-kind.ensures c.requires

pub node-returns-in_ok-pattern-in-Some : goal.node-returns-in_ok-pattern-in-Some
node-returns-in_ok-pattern-in-Some t c =
    by.makes_data_except _ _ _ _ _ _ (c.in-DataType.is ∙ ap (λ o. view.DataType c.in-DataType.of c.in-DataType.parameters o) c.in-Some.is) c.kind-kind.ensures c.requires
    (by.walks_same _ _ _ c.get-in-Some.ensures c.in_ok-pattern-in-Some.ensures)

pub node-returns-in-None : goal.node-returns-in-None
node-returns-in-None t c = by.makes_data_type _ _ _ _ (c.in-DataType.is ∙ ap (λ o. view.DataType c.in-DataType.of c.in-DataType.parameters o) c.in-None.is) c.kind-kind.ensures c.requires

pub node-members-requires : goal.node-members-requires
node-members-requires t c = (
  (let d = c.decreases in let e = ap size-Pattern c.in-Group.is in let f = view.sized-Group c.in-Group.members in rw c.as_slice.ensures (omega (arith, d, e, f))),
  by.can_each_same _ _ c.as_slice.ensures (by.can_group _ _ c.in-Group.is c.requires),
)

pub node-members-requires-in-Choice : goal.node-members-requires-in-Choice
node-members-requires-in-Choice t c = (
  (let d = c.decreases in let e = ap size-Pattern c.in-Choice.is in let f = view.sized-Choice c.in-Choice.members in rw c.as_slice-in-Choice.ensures (omega (arith, d, e, f))),
  by.can_each_same _ _ c.as_slice-in-Choice.ensures (by.can_choice _ _ c.in-Choice.is c.requires),
)

pub node-pattern-requires : goal.node-pattern-requires
node-pattern-requires t c = (
  (let d = c.decreases in let e = ap size-Pattern c.in-Element.is in let f = view.sized-Element c.in-Element.class c.in-Element.content c.in-Element.at in rw c.get.ensures (omega (arith, d, e, f))),
  by.can_same _ _ c.get.ensures (by.can_element _ _ _ _ _ c.in-Element.is c.in_ok-position-in-Element.ensures.begun c.requires),
)

pub node-members-requires-in-Interleave : goal.node-members-requires-in-Interleave
node-members-requires-in-Interleave t c = (
  (let d = c.decreases in let e = ap size-Pattern c.in-Interleave.is in let f = view.sized-Interleave c.in-Interleave.members in rw c.as_slice-in-Interleave.ensures (omega (arith, d, e, f))),
  by.can_each_same _ _ c.as_slice-in-Interleave.ensures (by.can_interleave _ _ c.in-Interleave.is c.requires),
)

pub node-grammar-requires : goal.node-grammar-requires
node-grammar-requires t c = (
  (let d = c.decreases in let e = ap size-Pattern c.in-Grammar.is in let f = view.sized-Grammar c.in-Grammar.items in rw c.as_slice-in-Grammar.ensures (omega (arith, d, e, f))),
  by.can_grammar _ _ _ c.in-Grammar.is c.as_slice-in-Grammar.ensures c.requires,
)

pub node-returns-in_ok-definition-in-Grammar : goal.node-returns-in_ok-definition-in-Grammar
node-returns-in_ok-definition-in-Grammar t c = by.makes_grammar _ _ _ _ c.in-Grammar.is c.as_slice-in-Grammar.ensures c.requires c.in_ok-definition-in-Grammar.ensures

pub items-loop-item-init : goal.items-loop-item-init
items-loop-item-init t c =
    items_first c.args.self.now.names.now c.args.self.now.tokens.now c.args.self.now.inner.now c.args.self.now.outer.now c.args.parts.now (items_of (map item_of c.args.items.now)) c.args.entries.now.items c.requires.ready

pub items-item-requires : goal.items-item-requires
items-item-requires t c = (
  search (rules, at_most, c.item-item.is),
  record {
    ready = item_at c.args.self.now.names.now c.args.self.now.tokens.now c.args.self.now.inner.now c.args.self.now.outer.now c.args.parts.now (items_of (map item_of c.args.items.now)) c.args.entries.now.items item_of
        c.loop-item.parts c.loop-item.entries.items c.args.items.now c.loop-item.item-index c.item-item.result (omega arith) c.item-item.is c.requires.ready c.loop-item.invariant;
  },
)

pub items-loop-item-preserved : goal.items-loop-item-preserved
items-loop-item-preserved t c =
    items_step c.args.self.now.names.now c.args.self.now.tokens.now c.args.self.now.inner.now c.args.self.now.outer.now c.args.parts.now (items_of (map item_of c.args.items.now)) c.args.entries.now.items item_of
    c.loop-item.parts c.item.new.parts c.loop-item.entries.items c.item.new.entries.items c.args.items.now c.loop-item.item-index c.item-item.result (omega arith) c.item-item.is
    c.loop-item.invariant c.in_ok-item.ensures.walked

pub items-returns : goal.items-returns
items-returns t c = record {
  walked = items_end c.args.self.now.names.now c.args.self.now.tokens.now c.args.self.now.inner.now c.args.self.now.outer.now c.args.parts.now (items_of (map item_of c.args.items.now)) c.args.entries.now.items item_of
      c.loop-item.parts c.loop-item.entries.items c.args.items.now c.loop-item.item-index (omega arith) c.loop-item.invariant;
}

pub item-definition-requires : goal.item-definition-requires
item-definition-requires t c = by.define_named _ _ _ _ _ c.in-Define.is c.requires

pub item-returns-in-Include : goal.item-returns-in-Include
item-returns-in-Include t c = by.walks_include _ _ _ _ _ _ c.in-Include.is

pub grammar-items-requires : goal.grammar-items-requires
grammar-items-requires t c = (
  (let d = c.decreases in omega (arith, d)),
  by.grammar_can_items _ _ c.in_ok-table.ensures.table c.in_ok-table.ensures.counted c.in_ok-table.ensures.reserved c.requires,
)

pub grammar-combine-requires-clause-definitions : goal.grammar-combine-requires-clause-definitions
grammar-combine-requires-clause-definitions t c =
    by.grammar_has_definitions _ _ _ _ c.in_ok-table.ensures.table c.in_ok-table.ensures.counted c.in_ok-table.ensures.reserved c.new-entries.ensures.items c.requires c.in_ok-items.ensures

pub grammar-combine-requires-clause-entries : goal.grammar-combine-requires-clause-entries
grammar-combine-requires-clause-entries t c =
    by.grammar_has_entries _ _ _ _ _ c.in_ok-table.ensures.table c.in_ok-table.ensures.counted c.in_ok-table.ensures.reserved c.new-entries.ensures.items c.as_slice.ensures.value c.requires c.in_ok-items.ensures

pub grammar-returns : goal.grammar-returns
grammar-returns t c =
    by.grammar_walks _ _ _ _ _ _ _ c.in_ok-table.ensures.table c.in_ok-table.ensures.counted c.in_ok-table.ensures.reserved c.new-entries.ensures.items c.as_slice.ensures.value c.base.ensures.number c.requires c.in_ok-items.ensures c.in_ok-combine.ensures

pub node-pattern-requires-in-Optional : goal.node-pattern-requires-in-Optional
node-pattern-requires-in-Optional t c = (
  (let d = c.decreases in let e = ap size-Pattern c.in-Optional.is in let f = view.sized-Optional c.in-Optional.content in rw c.get-in-Optional.ensures (omega (arith, d, e, f))),
  by.can_same _ _ c.get-in-Optional.ensures (by.can_optional _ _ c.in-Optional.is c.requires),
)

pub node-pattern-requires-in-ZeroOrMore : goal.node-pattern-requires-in-ZeroOrMore
node-pattern-requires-in-ZeroOrMore t c = (
  (let d = c.decreases in let e = ap size-Pattern c.in-ZeroOrMore.is in let f = view.sized-ZeroOrMore c.in-ZeroOrMore.content in rw c.get-in-ZeroOrMore.ensures (omega (arith, d, e, f))),
  by.can_same _ _ c.get-in-ZeroOrMore.ensures (by.can_zero_or_more _ _ c.in-ZeroOrMore.is c.requires),
)

pub node-pattern-requires-in-OneOrMore : goal.node-pattern-requires-in-OneOrMore
node-pattern-requires-in-OneOrMore t c = (
  (let d = c.decreases in let e = ap size-Pattern c.in-OneOrMore.is in let f = view.sized-OneOrMore c.in-OneOrMore.content in rw c.get-in-OneOrMore.ensures (omega (arith, d, e, f))),
  by.can_same _ _ c.get-in-OneOrMore.ensures (by.can_one_or_more _ _ c.in-OneOrMore.is c.requires),
)

pub node-pattern-requires-in-Mixed : goal.node-pattern-requires-in-Mixed
node-pattern-requires-in-Mixed t c = (
  (let d = c.decreases in let e = ap size-Pattern c.in-Mixed.is in let f = view.sized-Mixed c.in-Mixed.content in rw c.get-in-Mixed.ensures (omega (arith, d, e, f))),
  by.can_same _ _ c.get-in-Mixed.ensures (by.can_mixed _ _ c.in-Mixed.is c.requires),
)

pub node-pattern-requires-in-Attribute : goal.node-pattern-requires-in-Attribute
node-pattern-requires-in-Attribute t c = (
  (let d = c.decreases in let e = ap size-Pattern c.in-Attribute.is in let f = view.sized-Attribute c.in-Attribute.class c.in-Attribute.content c.in-Attribute.at in rw c.get-in-Attribute.ensures (omega (arith, d, e, f))),
  by.can_same _ _ c.get-in-Attribute.ensures (by.can_attribute _ _ _ _ c.in-Attribute.is c.requires),
)

pub node-pattern-requires-in-Some : goal.node-pattern-requires-in-Some
node-pattern-requires-in-Some t c =
    let g = c.in-DataType.is ∙ ap (λ o. view.DataType c.in-DataType.of c.in-DataType.parameters o) c.in-Some.is in (
      (let d = c.decreases in let e = ap size-Pattern g in let f = view.sized-DataType c.in-DataType.of c.in-DataType.parameters (Some c.in-Some.except) in rw c.get-in-Some.ensures (omega (arith, d, e, f))),
      by.can_same _ _ c.get-in-Some.ensures (by.can_data_except _ _ _ _ g c.requires),
    )

pub node-class-requires-clause-names : goal.node-class-requires-clause-names
node-class-requires-clause-names t c = (by.element_class _ _ _ _ c.in-Element.is c.requires).0

pub node-class-requires-clause-resolved : goal.node-class-requires-clause-resolved
node-class-requires-clause-resolved t c = (by.element_class _ _ _ _ c.in-Element.is c.requires).1

pub node-class-requires-in-Attribute-clause-names : goal.node-class-requires-in-Attribute-clause-names
node-class-requires-in-Attribute-clause-names t c = (by.attribute_class _ _ _ _ c.in-Attribute.is c.requires).0

pub node-class-requires-in-Attribute-clause-resolved : goal.node-class-requires-in-Attribute-clause-resolved
node-class-requires-in-Attribute-clause-resolved t c = (by.attribute_class _ _ _ _ c.in-Attribute.is c.requires).1

pub node-value_kind-kind-requires : goal.node-value_kind-kind-requires
node-value_kind-kind-requires t c = by.value_kind _ _ _ c.in-Value.is c.requires

pub node-reference-requires : goal.node-reference-requires
node-reference-requires t c = by.ref_name _ _ _ c.in-Ref.is c.requires

pub node-reference-requires-in-Parent : goal.node-reference-requires-in-Parent
node-reference-requires-in-Parent t c = by.parent_name _ _ _ c.in-Parent.is c.requires

pub node-unreachable-requires : goal.node-unreachable-requires
node-unreachable-requires t c = absurd (by.no_list _ _ _ c.in-List.is c.requires)

pub node-unreachable-requires-in-External : goal.node-unreachable-requires-in-External
node-unreachable-requires-in-External t c = absurd (by.no_external _ _ _ _ c.in-External.is c.requires)
