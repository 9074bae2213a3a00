use Rattle.command_words.proofs.Beginnings.{begins_seeded, not_seeded}
use Rattle.command_words.proofs.command.read_seeded.Goals as goal

pub returns-in_err-size-clause-none : goal.returns-in_err-size-clause-none
returns-in_err-size-clause-none c = not_seeded _ _ c.read.new.words _ c.from_residual-in_err-size.result c.in_ok-number.ensures c.in_err-size.ensures

pub returns-clause-some : goal.returns-clause-some
returns-clause-some c = begins_seeded _ _ _ _ _ c.in_ok-number.ensures c.in_ok-size.ensures
