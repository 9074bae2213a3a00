use Rattle.syntax_laws.proofs.LocalPlaces.{sticks_at_error}
use Rattle.syntax_laws.proofs.refused_at_the_error.Goals as goal

pub returns : goal.returns
returns c = sticks_at_error
