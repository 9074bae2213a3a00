use Rattle.std.proofs.Common.{◌≡◌, ◌∙◌, ap, sym, subst}
use Rattle.rng_model.specs.Patterns.{data_except}
use Rattle.text_atoms.specs.Kinds.{kind_of}
use Rattle.pattern_intern.specs.Stored.{tree_at}
use Rattle.pattern_intern.specs.Trees.{node_tree}
use Rattle.pattern_intern.specs.declared.node.Node.TheVariants.{DataType}
use Rattle.restrictions.specs.NameSets.{IsSetOf}
use Rattle.restrictions.specs.Shared.{IsStanding, named}
use Rattle.restrictions.proofs.shared.stand.Goals as goal

pub returns-in-DataType-default-Some : goal.returns-in-DataType-default-Some
returns-in-DataType-default-Some c =
    let g = c.args.schema.now.schema in
    let s = c.args.schema.now.pool in
    let w = c.in-DataType-default-Some in
    let t = rw c.pool.ensures at c.node-node.ensures.tree in
    let e : node_tree s c.node-node.result ≡ data_except (kind_of w.field-0) (tree_at s w.part.0) = ap (node_tree s) w.is ∙ ap (λ o. node_tree s (DataType w.field-0 o)) (rw w.is at w.field-1-is) in
    subst (λ p. IsStanding g c.args.sought c.args.names.now p c.around.result) (sym (t ∙ e))
    (c.around.ensures.except g c.args.sought c.args.names.now (kind_of w.field-0) (tree_at s w.part.0) c.part_at.ensures
    (subst (λ p. IsSetOf c.args.names.now (λ n. named g c.args.sought n p) c.named_set-own.result) e c.named_set-own.ensures))

pub returns-in-Attribute : goal.returns-in-Attribute
returns-in-Attribute c =
    let t = rw c.pool.ensures at c.node-node.ensures.tree in
    rw (t, c.in-Attribute.is)
    (c.around-in-Attribute.ensures.attribute _ _ _ _ _ c.part_at-in-Attribute.ensures (rw c.in-Attribute.is at c.named_set-own.ensures))
