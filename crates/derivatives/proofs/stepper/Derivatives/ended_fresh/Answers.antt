use Rattle.derivatives.proofs.Keeping.{bare_extends, right_extends}
use Rattle.derivatives.proofs.OneNames.{one_extends}
use Rattle.derivatives.proofs.RemainderSets.{remainder_sets_extend}
use Rattle.derivatives.proofs.Seen.{keeps_seen, texts_cleared}
use Rattle.derivatives.proofs.stepper.Derivatives.ended_fresh.Goals as goal

pub fresh_ending-requires-clause-texts : goal.fresh_ending-requires-clause-texts
fresh_ending-requires-clause-texts c = texts_cleared _ _ c.self.inside.texts c.clear.new.self c.clear.ensures.results c.clear.ensures.choices c.self.invariant.1

pub invariant_of-self : goal.invariant_of-self
invariant_of-self c =
    let e = c.fresh_ending.ensures.kept in let s = c.fresh_ending.ensures.schema in (
      right_extends _ _ _ _ c.self.invariant.0 e,
      c.fresh_ending.ensures.sets,
      remainder_sets_extend _ _ _ c.self.invariant.2 e s,
      bare_extends _ _ _ _ c.self.invariant.3 e,
      one_extends _ _ _ _ c.self.invariant.4 s,
    )

pub returns-clause-keeps : goal.returns-clause-keeps
returns-clause-keeps c = keeps_seen _ _ _ c.self.view_is c.fresh_ending.ensures.kept c.fresh_ending.ensures.schema
