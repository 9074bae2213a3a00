use Rattle.std.proofs.Common.{List, Option, sym, subst}
use Rattle.transitions.specs.declared.state_id.StateId.{StateId}
use Rattle.feasibility.specs.Following.{IsGrownFor, IsHeld}
use Rattle.feasibility.specs.Tables.{Table}
use Rattle.feasibility.specs.Taking.{IsFreeKnown}
use Rattle.feasibility.proofs.Taken.{free_known, node_known, row_within}
use Rattle.feasibility.proofs.table.Table.next_code.Goals as goal

pub free_taken-requires : goal.free_taken-requires
free_taken-requires g c =
    let h = subst (λ (t : Table). IsHeld t c.args.id.0) (sym c.self.view_is) c.requires.held in
    let r = subst (λ (t : Table). IsGrownFor t c.args.id.0 c.args.rest) (sym c.self.view_is) c.requires.grown in
    subst (λ (xs : List (Option StateId)). IsFreeKnown c.self.inside.states.explorer xs c.self.inside.marks c.args.id.0 c.args.rest) (sym c.deref.ensures.value)
    (free_known c.self.inside.states.explorer c.self.inside.states.frees.items c.self.inside.states.rows c.self.inside.states.levels.items c.self.inside.marks c.self.invariant c.args.id.0 c.args.rest h r)

pub node_taken-requires-clause-ready : goal.node_taken-requires-clause-ready
node_taken-requires-clause-ready g c =
    let h = subst (λ (t : Table). IsHeld t c.args.id.0) (sym c.self.view_is) c.requires.held in
    let r = subst (λ (t : Table). IsGrownFor t c.args.id.0 c.args.rest) (sym c.self.view_is) c.requires.grown in
    node_known c.self.inside.states.explorer c.self.inside.states.frees.items c.self.inside.states.rows c.self.inside.states.levels.items c.self.inside.marks c.self.invariant c.args.id.0 c.args.rest h r

pub node_taken-requires-clause-row : goal.node_taken-requires-clause-row
node_taken-requires-clause-row g c = λ l.
    let h = subst (λ (t : Table). IsHeld t c.args.id.0) (sym c.self.view_is) c.requires.held in
    let r = subst (λ (t : Table). IsGrownFor t c.args.id.0 c.args.rest) (sym c.self.view_is) c.requires.grown in
    row_within c.self.inside.states.explorer c.self.inside.states.rows c.self.inside.marks c.args.id.0 c.args.rest l
    (node_known c.self.inside.states.explorer c.self.inside.states.frees.items c.self.inside.states.rows c.self.inside.states.levels.items c.self.inside.marks c.self.invariant c.args.id.0 c.args.rest h r)
