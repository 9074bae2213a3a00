use Rattle.command_words.proofs.Beginnings.{begins_states}
use Rattle.command_words.proofs.command.read_states.Goals as goal

pub returns-clause-some : goal.returns-clause-some
returns-clause-some c = begins_states _ _ _ _ _ c.in_ok-size.ensures c.in_ok-file.ensures
