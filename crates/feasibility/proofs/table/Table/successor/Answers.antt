use Rattle.std.proofs.Common.{List, Option, sym, subst}
use Rattle.table_laws.specs.Reaching.{weight}
use Rattle.skeleton.specs.Views.{code_of}
use Rattle.transitions.specs.declared.state_id.StateId.{StateId}
use Rattle.feasibility.specs.Following.{IsGrownFor, IsHeld}
use Rattle.feasibility.specs.Tables.{Table}
use Rattle.feasibility.specs.Taking.{IsKnownFor}
use Rattle.feasibility.proofs.Departing.{known_for}
use Rattle.feasibility.proofs.table.Table.successor.Goals as goal

pub after_code-requires-clause-known : goal.after_code-requires-clause-known
after_code-requires-clause-known g c =
    let h = subst (λ (t : Table). IsHeld t c.args.id.0) (sym c.self.view_is) c.requires.held in
    let r = subst (λ (t : Table). IsGrownFor t c.args.id.0 (weight (code_of c.args.code))) (sym c.self.view_is) c.requires.grown in
    let k = known_for c.self.inside.states.explorer c.self.inside.states.frees.items c.self.inside.states.rows c.self.inside.states.levels.items c.args.id.0 (code_of c.args.code) c.self.invariant.grown h r in
    subst (λ (xs : List (Option StateId)). IsKnownFor c.self.inside.states.explorer xs c.self.inside.states.rows c.args.id.0 (code_of c.args.code)) (sym c.deref.ensures.value) k
