use Rattle.std.proofs.Common.{◌-◌, true≢false, sym, ◌∙◌, arith}
use Rattle.skeleton.specs.Views.{code_of}
use Rattle.transitions.proofs.Lists.{get_here}
use Rattle.transitions.proofs.Ordered.{only_last}
use Rattle.transitions.proofs.row_lookup.after.Goals as goal

pub returns-else-covers-clause-none : goal.returns-else-covers-clause-none
returns-else-covers-clause-none c =
    let most = c.up_to-count.ensures.most in
    only_last c.args.row.now c.requires (code_of c.args.code) c.up_to-count.result _ c.up_to-count.ensures c.if-count-eq0.false
    (get_here c.args.row.now (c.up_to-count.result - 1) _ (omega (arith, most, c.if-count-eq0.false)))
    (λ h. true≢false (sym (c.covers.ensures.1 h) ∙ c.if-covers.false))
