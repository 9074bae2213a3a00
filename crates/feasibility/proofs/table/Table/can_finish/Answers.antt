use Rattle.std.proofs.Common.{◌↔◌, IsTrue, sym, subst}
use Rattle.table_laws.specs.Finishing.{Finish}
use Rattle.feasibility.specs.Following.{IsGrownFor, IsHeld}
use Rattle.feasibility.specs.Tables.{Table, lists, state_of}
use Rattle.feasibility.proofs.Marking.{finish_in, marked_in}
use Rattle.feasibility.proofs.table.Table.can_finish.Goals as goal

pub mark-requires : goal.mark-requires
mark-requires g c =
    let h = subst (λ (t : Table). IsHeld t c.args.id.0) (sym c.self.view_is) c.requires.held in
    let r = subst (λ (t : Table). IsGrownFor t c.args.id.0 c.args.rest) (sym c.self.view_is) c.requires.grown in
    marked_in c.self.inside.states.explorer c.self.inside.states.frees.items c.self.inside.states.rows c.self.inside.states.levels.items c.self.inside.marks c.self.invariant c.args.id.0 c.args.rest h r

pub returns-clause-finish : goal.returns-clause-finish
returns-clause-finish g c =
    let h = subst (λ (t : Table). IsHeld t c.args.id.0) (sym c.self.view_is) c.requires.held in
    let r = subst (λ (t : Table). IsGrownFor t c.args.id.0 c.args.rest) (sym c.self.view_is) c.requires.grown in
    subst (λ (t : Table). IsTrue c.mark.result ↔ Finish t.schema (lists t) c.args.rest (state_of t c.args.id.0)) c.self.view_is
    (finish_in c.self.inside.states.explorer c.self.inside.states.frees.items c.self.inside.states.rows c.self.inside.states.levels.items c.self.inside.marks c.self.invariant c.args.id.0 c.args.rest h r c.mark.result
    c.mark.ensures)
