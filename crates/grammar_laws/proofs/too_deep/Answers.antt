use Rattle.grammar_laws.proofs.Examples.{too_deep_nested, too_deep_comma}
use Rattle.grammar_laws.proofs.too_deep.Goals as goal

pub returns-clause-nested : goal.returns-clause-nested
returns-clause-nested c = too_deep_nested

pub returns-clause-comma : goal.returns-clause-comma
returns-clause-comma c = too_deep_comma
