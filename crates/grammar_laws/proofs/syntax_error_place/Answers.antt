use Rattle.grammar_laws.proofs.Prefixes.{syntax_at}
use Rattle.grammar_laws.proofs.syntax_error_place.Goals as goal

pub returns : goal.returns
returns c = syntax_at
