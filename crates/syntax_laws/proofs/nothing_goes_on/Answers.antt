use Rattle.syntax_laws.proofs.Local.{stands_suffix}
use Rattle.syntax_laws.proofs.ReadsFiles.{nothing_behind}
use Rattle.syntax_laws.proofs.nothing_goes_on.Goals as goal

pub returns-clause-place : goal.returns-clause-place
returns-clause-place c ts us (ys, s, h) = stands_suffix s

pub returns-clause-refused : goal.returns-clause-refused
returns-clause-refused c = nothing_behind
