use Rattle.std.proofs.Common.{None, arith, ◌∙◌, ap}
use Rattle.table_laws.specs.Reaching.{free_code}
use Rattle.skeleton.specs.Views.{code_of}
use Rattle.transitions.proofs.Lists.{get_here}
use Rattle.feasibility.proofs.Departing.{free_none, free_some}
use Rattle.feasibility.proofs.successors.free_after.Goals as goal

pub returns-then-is_free-clause-some : goal.returns-then-is_free-clause-some
returns-then-is_free-clause-some c =
    let k = c.requires.known in
    free_some c.args.explorer.now c.args.id.0 (code_of c.args.code) (c.is_free.ensures.0 c.if-is_free.true ∙ ap free_code c.place.ensures) _
    (k.is_free _ (get_here c.args.frees.now c.args.id.0 None (let a = k.all_frees in let h = k.held in omega (arith, a, h))))

pub returns-then-is_free-clause-none : goal.returns-then-is_free-clause-none
returns-then-is_free-clause-none c =
    let k = c.requires.known in
    free_none c.args.explorer.now c.args.id.0 (code_of c.args.code) (c.is_free.ensures.0 c.if-is_free.true ∙ ap free_code c.place.ensures) _
    (k.is_free _ (get_here c.args.frees.now c.args.id.0 None (let a = k.all_frees in let h = k.held in omega (arith, a, h))))
