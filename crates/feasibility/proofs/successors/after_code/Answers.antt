use Rattle.std.proofs.Common.{List, subst}
use Rattle.skeleton.specs.Views.{code_of}
use Rattle.transitions.specs.declared.arc.Arc.{Arc}
use Rattle.transitions.specs.Searches.{GoesNowhere}
use Rattle.transitions.proofs.Lists.{same_row}
use Rattle.feasibility.proofs.Departing.{led_nowhere, none_so}
use Rattle.feasibility.proofs.successors.after_code.Goals as goal

pub returns-then-has_node-clause-none : goal.returns-then-has_node-clause-none
returns-then-has_node-clause-none c =
    let w = c.has_node.ensures.0 c.if-has_node.true in
    let r = c.requires.known.node w in
    let e = same_row c.args.rows.now c.args.id.0 r.0 c.get.result.now r.1 c.get.ensures in
    none_so c.after.result
    (λ n. led_nowhere c.args.explorer.now c.args.id.0 r.0 r.2 (code_of c.args.code) w c.requires.in_range (subst (λ (xs : List Arc). GoesNowhere xs (code_of c.args.code)) e n))
    c.after.ensures.none
