use Rattle.command_words.proofs.Beginnings.{begins_list}
use Rattle.command_words.proofs.command.read_list.Goals as goal

pub returns-clause-some : goal.returns-clause-some
returns-clause-some c = begins_list _ _ _ _ _ c.in_ok-size.ensures c.in_ok-file.ensures
