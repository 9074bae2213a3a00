use Rattle.derivatives.proofs.Keeping.{bare_extends, right_extends}
use Rattle.derivatives.proofs.OneNames.{one_extends}
use Rattle.derivatives.proofs.RemainderSets.{remainder_sets_extend}
use Rattle.derivatives.proofs.KeepingTexts.{sets_extend}
use Rattle.derivatives.proofs.Seen.{keeps_seen}
use Rattle.derivatives.proofs.stepper.Derivatives.ended.Goals as goal

pub invariant_of-self : goal.invariant_of-self
invariant_of-self c =
    let e = c.ending.ensures.kept in let s = c.ending.ensures.schema in (
      right_extends _ _ _ _ c.self.invariant.0 e,
      sets_extend _ _ _ c.self.invariant.1 e,
      remainder_sets_extend _ _ _ c.self.invariant.2 e s,
      bare_extends _ _ _ _ c.self.invariant.3 e,
      one_extends _ _ _ _ c.self.invariant.4 s,
    )

pub returns-clause-keeps : goal.returns-clause-keeps
returns-clause-keeps c = keeps_seen _ _ _ c.self.view_is c.ending.ensures.kept c.ending.ensures.schema
