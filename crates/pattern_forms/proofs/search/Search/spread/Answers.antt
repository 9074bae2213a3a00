use Rattle.std.proofs.Common.{arith}
use Rattle.pattern_forms.proofs.Searched.{takes_none, takes_more, takes_all}
use Rattle.pattern_forms.proofs.search.Search.spread.Goals as goal

pub loop-k-init : goal.loop-k-init
loop-k-init c = takes_none c.args.graph.now c.args.contents c.args.node c.args.self.now

pub loop-k-preserved : goal.loop-k-preserved
loop-k-preserved c =
    takes_more c.args.graph.now c.args.contents c.args.node _ _ _ _ _ c.step.ensures.step c.loop-k.invariant c.in_ok-visit.ensures.grown c.in_ok-visit.ensures.marked

pub returns : goal.returns
returns c = takes_all c.args.graph.now c.args.contents c.args.node _ _ _ (omega (arith, c.step_count-k-end.ensures)) c.loop-k.invariant
