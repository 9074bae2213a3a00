use Rattle.simple_form_laws.proofs.Kept.{choice-kept}
use Rattle.simple_form_laws.proofs.Renumbering.{group-renumbered, interleave-renumbered, one_or_more-renumbered, attribute-renumbered, data-renumbered}
use Rattle.simple_form_laws.proofs.renumbered_parts.Goals as goal

pub returns-clause-choice : goal.returns-clause-choice
returns-clause-choice c = choice-kept

pub returns-clause-group : goal.returns-clause-group
returns-clause-group c = group-renumbered

pub returns-clause-interleave : goal.returns-clause-interleave
returns-clause-interleave c = interleave-renumbered

pub returns-clause-one_or_more : goal.returns-clause-one_or_more
returns-clause-one_or_more c = one_or_more-renumbered

pub returns-clause-attribute : goal.returns-clause-attribute
returns-clause-attribute c = attribute-renumbered

pub returns-clause-data_type : goal.returns-clause-data_type
returns-clause-data_type c = data-renumbered
