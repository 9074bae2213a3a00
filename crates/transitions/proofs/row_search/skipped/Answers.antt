use Rattle.std.proofs.Common.{Option, arith, sym, subst, option_map}
use Rattle.skeleton.specs.Views.{code_of}
use Rattle.skeleton.specs.declared.code.Code.{Code}
use Rattle.transitions.specs.Searches.{AreSkipped}
use Rattle.transitions.proofs.Ordered.{not_past}
use Rattle.transitions.proofs.row_search.skipped.Goals as goal

pub returns-in-Some-clause-none : goal.returns-in-Some-clause-none
returns-in-Some-clause-none c =
    subst (λ (b : Option Code). AreSkipped c.args.row.now (option_map code_of b) c.saturating_sub.result) (sym c.in-Some.is)
    (record {
      none = λ i a l s d h k.
          not_past c.args.row.now c.requires (code_of c.in-Some.code) c.up_to.result i a d c.up_to.ensures (let e = c.saturating_sub.ensures in omega (arith, l, e)) s h k;
    })
