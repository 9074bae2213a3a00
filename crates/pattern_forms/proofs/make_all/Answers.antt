use Rattle.std.proofs.Common.{arith, true, false, sym, subst, ◌+◌}
use Rattle.std.proofs.lemmas.Option.{get_or_from_slice_get}
use Rattle.pattern_forms.specs.Making.{IsMadeSo}
use Rattle.pattern_forms.proofs.Wholes.{so_none, so_more, so_skip, so_all}
use Rattle.pattern_forms.proofs.make_all.Goals as goal
use Rattle.pattern_forms.proofs.make_all.Goals.{else-reached-node-via-then-reached-node+in_ok-walk+else-not-branch, else-reached-node-via-else-reached-node}

pub loop-node-init : goal.loop-node-init
loop-node-init c = so_none c.args.graph.now c.in_ok-making.making c.in_ok-making.ensures.making c.in_ok-making.ensures.settled

pub loop-node-preserved : goal.loop-node-preserved
loop-node-preserved c =
    elim c.else-reached-node.branch [
      | else-reached-node-via-then-reached-node+in_ok-walk+else-not-branch w ↦
          subst (λ m. IsMadeSo c.args.graph.now (c.loop-node.node + 1) m) (sym w.making-is)
          (let a = w.in_ok-walk.ensures in let b = w.if-not-branch.false in so_more c.args.graph.now c.loop-node.node c.loop-node.making w.walk.new.self c.loop-node.invariant (a.making b) (a.settled b) (a.grows b) (a.made b))
      | else-reached-node-via-else-reached-node w ↦
          subst (λ m. IsMadeSo c.args.graph.now (c.loop-node.node + 1) m) (sym w.making-is)
          (let b = w.if-reached-node.false in so_skip c.args.graph.now c.loop-node.node c.loop-node.making c.loop-node.invariant
          (λ r. absurd (let z = get_or_from_slice_get c.args.reached.now c.loop-node.node true false (c.requires.reached.complete c.loop-node.node r) in cc)))
    ]

pub returns-clause-made : goal.returns-clause-made
returns-clause-made c = so_all c.args.graph.now c.loop-node.node c.loop-node.making c.requires.closed (omega (arith, c.requires.reached.each)) c.loop-node.invariant
