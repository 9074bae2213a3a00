use Rattle.std.proofs.Common.{refl, arith}
use Rattle.pattern_forms.proofs.Searched.{searched, search_ends, popped_within}
use Rattle.pattern_forms.proofs.search.reached_from.Goals as goal

pub spread-requires-clause-node : goal.spread-requires-clause-node
spread-requires-clause-node c =
    popped_within c.args.graph.now c.args.contents c.args.start c.requires.closed c.requires.start c.loop-node.search c.pop.new.self.items c.in-Some.node c.loop-node.invariant
    c.in-Some.ensures.items

pub loop-node-preserved : goal.loop-node-preserved
loop-node-preserved c =
    searched c.args.graph.now c.args.contents c.args.start c.loop-node.search _ c.spread.new.self c.in-Some.node c.loop-node.invariant refl c.in-Some.ensures.items c.in_ok-spread.ensures

pub returns : goal.returns
returns c = search_ends c.args.graph.now c.args.contents c.args.start c.loop-node.search c.loop-node.invariant (omega (arith, c.in_default.ensures.cases.0))
