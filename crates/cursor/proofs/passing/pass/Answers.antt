use Rattle.rng_model.specs.Codes.{IsCode}
use Rattle.skeleton.specs.Views.{code_of, event_of}
use Rattle.feasibility.specs.Tables.{lists}
use Rattle.cursor.proofs.EventSteps.{code_for, grown_next, stuck_dead, stuck_unfinished, not_true}
use Rattle.cursor.proofs.passing.pass.Goals as goal

pub returns-in_err-next-clause-none : goal.returns-in_err-next-clause-none
returns-in_err-next-clause-none g c =
    let code : IsCode (lists c.args.table.now) (event_of c.args.event.now) (code_of c.in_ok-code.code) =
    code_for c.args.table.now _ _ _ _ c.universe.ensures c.atoms.ensures c.in_ok-code.ensures.found in
    rw c.from_residual-in_err-next.ensures (stuck_dead c.args.table.now c.holds.ensures c.args.id.0 _ _ _ code c.in_err-next.ensures.none)

pub can_finish-requires-clause-grown : goal.can_finish-requires-clause-grown
can_finish-requires-clause-grown g c =
    let code : IsCode (lists c.args.table.now) (event_of c.args.event.now) (code_of c.in_ok-code.code) =
    code_for c.args.table.now _ _ _ _ c.universe.ensures c.atoms.ensures c.in_ok-code.ensures.found in
    grown_next c.args.table.now c.holds.ensures _ _ _ _ _ c.requires.grown code c.in_ok-next.ensures.some

pub returns-else-can_finish-clause-none : goal.returns-else-can_finish-clause-none
returns-else-can_finish-clause-none g c =
    let code : IsCode (lists c.args.table.now) (event_of c.args.event.now) (code_of c.in_ok-code.code) =
    code_for c.args.table.now _ _ _ _ c.universe.ensures c.atoms.ensures c.in_ok-code.ensures.found in
    stuck_unfinished c.args.table.now c.holds.ensures c.args.id.0 _ _ _ _ code c.in_ok-next.ensures.some (λ f. not_true c.can_finish.result c.if-can_finish.false (c.can_finish.ensures.finish.1 f))
