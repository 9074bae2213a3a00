use Rattle.derivatives.proofs.Keeping.{bare_extends}
use Rattle.derivatives.proofs.KeepingTexts.{sets_extend}
use Rattle.derivatives.proofs.OneNames.{one_extends}
use Rattle.derivatives.proofs.RemainderSets.{remainder_sets_extend}
use Rattle.derivatives.proofs.Seen.{keeps_seen}
use Rattle.derivatives.proofs.stepper.Derivatives.body.Goals as goal

pub invariant_of-self : goal.invariant_of-self
invariant_of-self c =
    let e = c.close.ensures.kept in let s = c.close.ensures.schema in (
      c.close.ensures.right,
      sets_extend _ _ _ c.self.invariant.1 e,
      remainder_sets_extend _ _ _ c.self.invariant.2 e s,
      bare_extends _ _ _ _ c.self.invariant.3 e,
      one_extends _ _ _ _ c.self.invariant.4 s,
    )

pub invariant_of-self-in-Tag : goal.invariant_of-self-in-Tag
invariant_of-self-in-Tag c =
    let e = c.close.ensures.kept in let s = c.close.ensures.schema in (
      c.close.ensures.right,
      sets_extend _ _ _ c.self.invariant.1 e,
      remainder_sets_extend _ _ _ c.self.invariant.2 e s,
      bare_extends _ _ _ _ c.self.invariant.3 e,
      one_extends _ _ _ _ c.self.invariant.4 s,
    )

pub returns-in_err-pattern-in-Tag-clause-keeps : goal.returns-in_err-pattern-in-Tag-clause-keeps
returns-in_err-pattern-in-Tag-clause-keeps c = keeps_seen _ _ _ c.self.view_is c.close.ensures.kept c.close.ensures.schema

pub returns-in_ok-pattern-in-Tag-clause-keeps : goal.returns-in_ok-pattern-in-Tag-clause-keeps
returns-in_ok-pattern-in-Tag-clause-keeps c = keeps_seen _ _ _ c.self.view_is c.close.ensures.kept c.close.ensures.schema
