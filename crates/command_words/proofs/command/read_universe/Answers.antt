use Rattle.command_words.proofs.Beginnings.{begins_universe}
use Rattle.command_words.proofs.command.read_universe.Goals as goal

pub returns-clause-some : goal.returns-clause-some
returns-clause-some c = begins_universe _ _ _ c.in_ok-file.ensures
