use Rattle.std.proofs.Common.{length}
use Rattle.tree_graph.proofs.Within.{nodes_more}
use Rattle.tree_graph.proofs.parts.Parts.push.Goals as goal

pub invariant_of-self-2 : goal.invariant_of-self-2
invariant_of-self-2 c =
    let r = rw (← c.self.view_is) at c.requires in
    rw c.in_ok-push.ensures.items (nodes_more c.self.inside.nodes.items c.args.node (length c.self.inside.definitions.items) c.self.inside.tokens c.self.invariant r)

pub invariant_of-self : goal.invariant_of-self
invariant_of-self c = rw c.in_err-push.ensures.items c.self.invariant
