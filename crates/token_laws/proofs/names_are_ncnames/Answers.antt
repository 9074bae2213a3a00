use Rattle.token_laws.proofs.Names.{names_are}
use Rattle.token_laws.proofs.names_are_ncnames.Goals as goal

pub returns : goal.returns
returns c = names_are
