use Rattle.std.proofs.Common.{arith}
use Rattle.transitions.proofs.Keeping.{keeps_marks}
use Rattle.feasibility.proofs.Adding.{on_err}
use Rattle.feasibility.proofs.Keeping.{right_grown}
use Rattle.feasibility.proofs.Tabling.{few_costs}
use Rattle.feasibility.proofs.table.fill.Goals as goal

pub returns-in_err-grow_levels-clause-right : goal.returns-in_err-grow_levels-clause-right
returns-in_err-grow_levels-clause-right g c =
    right_grown c.args.states.now c.grow_levels.new.self c.args.marks.now c.grow_levels.ensures.on c.requires.filled.right

pub returns-in_err-grow_levels-clause-kept : goal.returns-in_err-grow_levels-clause-kept
returns-in_err-grow_levels-clause-kept g c = keeps_marks c.args.marks.now

pub mark-requires-clause-right : goal.mark-requires-clause-right
mark-requires-clause-right g c =
    right_grown c.args.states.now c.grow_levels.new.self c.args.marks.now c.grow_levels.ensures.on c.requires.filled.right

pub returns-in_err-mark-clause-tick : goal.returns-in_err-mark-clause-tick
returns-in_err-mark-clause-tick g c =
    let few = few_costs c.args.states.now c.grow_levels.new.self c.grow_levels.ensures.on c.in_ok-grow_levels.ensures.grown in
    on_err c.from_residual-in_err-mark.result (omega (arith, few, c.in_ok-grow_levels.ensures.ticks))
