use Rattle.std.proofs.Common.{sym, subst}
use Rattle.std.specs.Option.{IfSome, IfNone}
use Rattle.pattern_forms.specs.Making.{AllMade}
use Rattle.pattern_forms.specs.Searching.{HasCycle}
use Rattle.pattern_forms.specs.Outcomes.{IsLeastLoop}
use Rattle.pattern_forms.proofs.Closing.{are_forms, are_reached}
use Rattle.pattern_forms.proofs.Visiting.{no_loop_here}
use Rattle.pattern_forms.proofs.Ending.{least_fault}
use Rattle.pattern_forms.proofs.forms_of.Goals as goal

pub returns-clause-forms : goal.returns-clause-forms
returns-clause-forms c = are_forms c.args.graph.now c.in-Some.making (subst (λ o. IfSome o (AllMade c.args.graph.now)) c.in-Some.is c.in_ok-making.ensures.made)

pub returns-clause-reached : goal.returns-clause-reached
returns-clause-reached c = are_reached c.args.graph.now c.in-Some.making (subst (λ o. IfSome o (AllMade c.args.graph.now)) c.in-Some.is c.in_ok-making.ensures.made)

pub returns-clause-no_loop : goal.returns-clause-no_loop
returns-clause-no_loop c = record {
  sound = λ f h. no_loop_here f c.args.graph.now h c.in-Some.making (subst (λ o. IfSome o (AllMade c.args.graph.now)) c.in-Some.is c.in_ok-making.ensures.made);
}

pub returns-in_default-clause-fault : goal.returns-in_default-clause-fault
returns-in_default-clause-fault c =
    subst (λ x. IsLeastLoop c.args.graph.now x) (sym c.unwrap_or-at.ensures)
    (least_fault c.args.graph.now c.in_ok-least_loop.field-0 c.requires.closed
    (subst (λ o. IfNone o (HasCycle c.args.graph.now)) c.in_default.is c.in_ok-making.ensures.cycle) c.in_ok-least_loop.ensures)
