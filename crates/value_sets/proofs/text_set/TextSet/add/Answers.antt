use Rattle.value_sets.proofs.TextSets.{text_inserted}
use Rattle.value_sets.proofs.text_set.TextSet.add.Goals as goal

pub returns : goal.returns
returns c = text_inserted _ _ _ c.in_ok-insert.ensures.keys
