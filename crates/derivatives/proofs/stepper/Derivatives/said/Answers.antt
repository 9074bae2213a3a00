use Rattle.derivatives.proofs.Keeping.{bare_extends, right_extends}
use Rattle.derivatives.proofs.OneNames.{one_extends}
use Rattle.derivatives.proofs.RemainderSets.{remainder_sets_extend}
use Rattle.derivatives.proofs.Seen.{keeps_seen, texts_cleared}
use Rattle.derivatives.proofs.stepper.Derivatives.said.Goals as goal

pub text_step-requires-clause-right : goal.text_step-requires-clause-right
text_step-requires-clause-right c = texts_cleared _ _ c.self.inside.texts c.clear.new.self c.clear.ensures.results c.clear.ensures.choices c.self.invariant.1

pub invariant_of-self : goal.invariant_of-self
invariant_of-self c =
    let e = c.text_step.ensures.kept in let s = c.text_step.ensures.schema in (
      right_extends _ _ _ _ c.self.invariant.0 e,
      c.text_step.ensures.right.sets,
      remainder_sets_extend _ _ _ c.self.invariant.2 e s,
      bare_extends _ _ _ _ c.self.invariant.3 e,
      one_extends _ _ _ _ c.self.invariant.4 s,
    )

pub returns-clause-keeps : goal.returns-clause-keeps
returns-clause-keeps c = keeps_seen _ _ _ c.self.view_is c.text_step.ensures.kept c.text_step.ensures.schema
