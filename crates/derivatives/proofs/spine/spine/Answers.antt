use Rattle.std.proofs.Common.{arith, refl}
use Rattle.derivatives.proofs.Joining.{spine_begins, spine_longer}
use Rattle.derivatives.proofs.Nodes.{choice_node}
use Rattle.derivatives.proofs.spine.spine.Goals as goal

pub loop-member-init : goal.loop-member-init
loop-member-init c = spine_begins _ _ _ _ _ _ c.new-firsts.ensures.items c.in_ok-push.ensures.items c.requires.first c.requires.others c.requires.tree

pub node-requires : goal.node-requires
node-requires c = let l = c.loop-member.invariant.last_below in let k = c.requires.inside in omega (arith, l, k)

pub loop-member-preserved : goal.loop-member-preserved
loop-member-preserved c =
    let n = choice_node _ _ _ _ refl c.node.ensures _ _ c.in-Choice.is in
    spine_longer _ _ _ _ _ _ _ c.loop-member.invariant c.in_ok-push-2.ensures.items n.0 n.1 n.2
