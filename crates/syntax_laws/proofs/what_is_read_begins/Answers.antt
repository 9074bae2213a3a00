use Rattle.syntax_laws.proofs.SoundRuns.{begins}
use Rattle.syntax_laws.proofs.what_is_read_begins.Goals as goal

pub returns : goal.returns
returns c = begins
