use Rattle.std.proofs.Common.{arith, sym, ◌∙◌, subst}
use Rattle.std.proofs.lemmas.Option.{same_Some}
use Rattle.pattern_forms.specs.Outcomes.{IsMade}
use Rattle.pattern_forms.proofs.Paths.{made_more, made_there, none_there}
use Rattle.pattern_forms.proofs.walk.first_unmade.Goals as goal

pub loop-k-preserved : goal.loop-k-preserved
loop-k-preserved c =
    made_more c.args.graph.now c.args.forms.now c.args.frame.node c.args.frame.next c.loop-k.k c.step.result c.loop-k.invariant c.step.ensures.step
    (made_there c.args.forms.now c.step.result c.is_none.result (omega (arith, c.step.ensures.within, c.requires.each)) c.is_none.ensures c.if-is_none.false)

pub returns-then-is_none-clause-some : goal.returns-then-is_none-clause-some
returns-then-is_none-clause-some c = record {
  within = omega arith;
  before = c.loop-k.invariant.each;
  unmade = λ j f m.
      none_there c.args.forms.now c.step.result c.is_none.result c.is_none.ensures c.if-is_none.true
      (subst (λ x. IsMade c.args.forms.now x) (same_Some j c.step.result (sym f ∙ c.step.ensures.step)) m);
}
