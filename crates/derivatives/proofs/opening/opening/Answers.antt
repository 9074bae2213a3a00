use Rattle.derivatives.proofs.Entering.{opening_made}
use Rattle.derivatives.proofs.RemainderSets.{remainder_sets_extend}
use Rattle.derivatives.proofs.opening.opening.Goals as goal

pub returns-clause-made : goal.returns-clause-made
returns-clause-made c =
    opening_made _ c.opening_rows_of_heads.ensures.any_order _ _ c.entered.new.schema _ _ _ (c.in_ok-find_set.ensures.sets.each _ _ c.get.ensures)
    c.in_ok-find_set.ensures.kept c.in_ok-find_set.ensures.schema c.requires.inside c.entered.ensures.made

pub returns-clause-sets : goal.returns-clause-sets
returns-clause-sets c = remainder_sets_extend _ _ _ c.in_ok-find_set.ensures.sets c.entered.ensures.kept c.entered.ensures.schema
