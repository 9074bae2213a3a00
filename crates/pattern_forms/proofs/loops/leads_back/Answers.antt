use Rattle.std.proofs.Common.{arith}
use Rattle.std.proofs.lemmas.Option.{slice_get_within}
use Rattle.pattern_forms.proofs.Cycles.{has_step, finds_cycle}
use Rattle.pattern_forms.proofs.Lists.{read_mark}
use Rattle.pattern_forms.proofs.loops.leads_back.Goals as goal

pub step-requires-clause-k : goal.step-requires-clause-k
step-requires-clause-k c = has_step c.args.graph.now c.requires.closed c.args.node c.requires.reference

pub returns : goal.returns
returns c =
    let f = finds_cycle c.args.graph.now c.requires.closed c.args.node c.step.result 0 _ c.requires.reference c.step.ensures.step c.in_ok-marks.ensures in
    let l = slice_get_within c.args.graph.now.nodes.items c.args.node _ c.requires.reference.2 in
    read_mark _ c.in_ok-marks.marks.items c.args.node c.index.result.now (omega (arith, l, c.in_ok-marks.ensures.each)) c.index.ensures f
