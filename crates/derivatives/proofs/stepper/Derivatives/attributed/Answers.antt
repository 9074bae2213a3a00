use Rattle.derivatives.proofs.Keeping.{bare_extends, none_right, right_extends}
use Rattle.derivatives.proofs.OneNames.{one_extends}
use Rattle.derivatives.proofs.RemainderSets.{remainder_sets_extend}
use Rattle.derivatives.proofs.Seen.{keeps_seen, texts_cleared}
use Rattle.derivatives.proofs.stepper.Derivatives.attributed.Goals as goal

pub attribute_step-requires-clause-right : goal.attribute_step-requires-clause-right
attribute_step-requires-clause-right c = none_right _ _ _ c.clear.ensures

pub attribute_step-requires-clause-texts : goal.attribute_step-requires-clause-texts
attribute_step-requires-clause-texts c = texts_cleared _ _ c.self.inside.texts c.clear-2.new.self c.clear-2.ensures.results c.clear-2.ensures.choices c.self.invariant.1

pub invariant_of-self : goal.invariant_of-self
invariant_of-self c =
    let e = c.attribute_step.ensures.kept in let s = c.attribute_step.ensures.schema in (
      right_extends _ _ _ _ c.self.invariant.0 e,
      c.attribute_step.ensures.texts.sets,
      remainder_sets_extend _ _ _ c.self.invariant.2 e s,
      bare_extends _ _ _ _ c.self.invariant.3 e,
      one_extends _ _ _ _ c.self.invariant.4 s,
    )

pub returns-clause-keeps : goal.returns-clause-keeps
returns-clause-keeps c = keeps_seen _ _ _ c.self.view_is c.attribute_step.ensures.kept c.attribute_step.ensures.schema
