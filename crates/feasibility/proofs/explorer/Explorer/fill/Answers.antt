use Rattle.feasibility.proofs.Filled.{filling_on}
use Rattle.feasibility.proofs.Moving.{finds_on}
use Rattle.feasibility.proofs.explorer.Explorer.fill.Goals as goal

pub returns-in_err-one-clause-finds : goal.returns-in_err-one-clause-finds
returns-in_err-one-clause-finds g c =
    finds_on c.args.self.now c.loop-position.self c.one.new.self c.loop-position.invariant.finds c.one.ensures.finds

pub loop-position-preserved : goal.loop-position-preserved
loop-position-preserved g c =
    filling_on c.args.self.now c.loop-position.self c.one.new.self c.args.from.0 c.args.family c.loop-position.position c.args.known.now.items c.loop-position.known.items
    c.one.new.known.items c.loop-position.row c.one.new.row c.args.steps.now c.loop-position.steps c.one.new.steps c.loop-position.invariant c.one.ensures.finds c.one.ensures.exploring
    c.in_ok-one.ensures.known c.in_ok-one.ensures.row c.in_ok-one.ensures.ticks
