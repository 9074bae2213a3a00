use Rattle.std.proofs.Common.{subst, sym}
use Rattle.pattern_intern.specs.Ordered.{IsOrdered}
use Rattle.pattern_intern.specs.Stored.{count}
use Rattle.pattern_intern.specs.Facts.{IsFacts}
use Rattle.pattern_intern.specs.Trees.{PartsBelow, node_tree}
use Rattle.pattern_intern.proofs.Adding.{grown, within, made_tree, kept}
use Rattle.pattern_intern.proofs.pool.Pool.add.Goals as goal

pub invariant_of-self : goal.invariant_of-self
invariant_of-self c = grown _ _ _ _ _ _ c.args.node c.args.fact c.self.invariant (subst (λ s. PartsBelow (count s) s c.args.node) (sym c.self.view_is) c.requires.below) (subst (λ s. IsFacts (node_tree s c.args.node) c.args.fact) (sym c.self.view_is) c.requires.facts) (subst (λ s. IsOrdered (node_tree s c.args.node)) (sym c.self.view_is) c.requires.ordered) c.intern_node.result c.intern_node.ensures.made c.intern_node.ensures.nodes_kept c.intern_node.ensures.facts_kept

pub returns-clause-within : goal.returns-clause-within
returns-clause-within c = within _ _ _ _ _ _ c.args.node c.args.fact c.self.invariant (subst (λ s. PartsBelow (count s) s c.args.node) (sym c.self.view_is) c.requires.below) (subst (λ s. IsFacts (node_tree s c.args.node) c.args.fact) (sym c.self.view_is) c.requires.facts) (subst (λ s. IsOrdered (node_tree s c.args.node)) (sym c.self.view_is) c.requires.ordered) c.intern_node.result c.intern_node.ensures.made c.intern_node.ensures.nodes_kept c.intern_node.ensures.facts_kept

pub returns-clause-made : goal.returns-clause-made
returns-clause-made c = rw (← c.self.view_is) (made_tree _ _ _ _ _ _ c.args.node c.args.fact c.self.invariant (subst (λ s. PartsBelow (count s) s c.args.node) (sym c.self.view_is) c.requires.below) (subst (λ s. IsFacts (node_tree s c.args.node) c.args.fact) (sym c.self.view_is) c.requires.facts) (subst (λ s. IsOrdered (node_tree s c.args.node)) (sym c.self.view_is) c.requires.ordered) c.intern_node.result c.intern_node.ensures.made c.intern_node.ensures.nodes_kept c.intern_node.ensures.facts_kept)

pub returns-clause-kept : goal.returns-clause-kept
returns-clause-kept c = rw (← c.self.view_is) (kept _ _ _ _ _ _ c.args.node c.args.fact c.self.invariant (subst (λ s. PartsBelow (count s) s c.args.node) (sym c.self.view_is) c.requires.below) (subst (λ s. IsFacts (node_tree s c.args.node) c.args.fact) (sym c.self.view_is) c.requires.facts) (subst (λ s. IsOrdered (node_tree s c.args.node)) (sym c.self.view_is) c.requires.ordered) c.intern_node.result c.intern_node.ensures.made c.intern_node.ensures.nodes_kept c.intern_node.ensures.facts_kept)
