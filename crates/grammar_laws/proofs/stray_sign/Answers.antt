use Rattle.grammar_laws.proofs.Stray.{stray_bar}
use Rattle.grammar_laws.proofs.stray_sign.Goals as goal

pub returns : goal.returns
returns c = stray_bar
