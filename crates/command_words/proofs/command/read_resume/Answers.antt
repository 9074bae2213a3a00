use Rattle.command_words.proofs.Beginnings.{begins_resume}
use Rattle.command_words.proofs.command.read_resume.Goals as goal

pub returns-clause-some : goal.returns-clause-some
returns-clause-some c = begins_resume _ _ _ _ _ _ _ c.in_ok-size.ensures c.in_ok-file.ensures c.in_ok-cursor.ensures
