use Rattle.grammar_laws.proofs.Fronts.{pattern_any_rest, items_any_rest}
use Rattle.grammar_laws.proofs.any_rest.Goals as goal

pub returns-clause-pattern : goal.returns-clause-pattern
returns-clause-pattern c = pattern_any_rest

pub returns-clause-items : goal.returns-clause-items
returns-clause-items c = items_any_rest
