use Rattle.derivatives.proofs.KeepingTexts.{sets_extend}
use Rattle.derivatives.proofs.closing.fresh_ending.Goals as goal

pub returns-clause-sets : goal.returns-clause-sets
returns-clause-sets c = sets_extend _ _ _ (sets_extend _ _ _ c.text_step.ensures.right.sets c.choice.ensures.kept) c.ending.ensures.kept
