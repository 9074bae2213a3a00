use Rattle.syntax_laws.proofs.ReadsFiles.{file_read}
use Rattle.syntax_laws.proofs.derived_is_read.Goals as goal

pub returns : goal.returns
returns c = file_read
