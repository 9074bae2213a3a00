use Rattle.tree_graph.proofs.Walking as by
use Rattle.tree_graph.proofs.walk.Walker.body.Goals as goal

pub pattern-requires : goal.pattern-requires
pattern-requires c = by.can_body _ _ c.in-Pattern.is c.requires

pub returns-in-Pattern : goal.returns-in-Pattern
returns-in-Pattern c = by.if_walks_body c.args.self.now.names.now c.args.self.now.tokens.now c.args.self.now.inner.now c.args.self.now.outer.now c.args.parts.now c.pattern.new.parts _ _ _ c.in-Pattern.is c.pattern.ensures

pub grammar-requires : goal.grammar-requires
grammar-requires c = by.can_body_items _ _ _ c.in-Items.is c.as_slice.ensures c.requires

pub push-requires : goal.push-requires
push-requires c = by.makes_within _ _ (by.makes_body_items _ _ _ _ c.in-Items.is c.as_slice.ensures c.requires c.in_ok-definition-in-Items.ensures)

pub returns-in_ok-number-in-Items : goal.returns-in_ok-number-in-Items
returns-in_ok-number-in-Items c =
    by.walks_pushed _ _ _ _ c.in_ok-number-in-Items.ensures.number c.in_ok-number-in-Items.ensures.added (by.makes_body_items _ _ _ _ c.in-Items.is c.as_slice.ensures c.requires c.in_ok-definition-in-Items.ensures)
