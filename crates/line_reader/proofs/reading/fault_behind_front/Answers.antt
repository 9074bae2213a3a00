use Rattle.line_laws.specs.Walks.{Before}
use Rattle.line_reader.proofs.Lines.{bad_line, ended, reads_none}
use Rattle.line_reader.proofs.reading.fault_behind_front.Goals as goal

pub returns-in-Some : goal.returns-in-Some
returns-in-Some c = bad_line c.args.line c.args.rest.now c.in-Some.field-0.0.now c.in-Some.field-0.1.now c.in-Some.ensures.0 c.in-Some.ensures.1

pub returns-in-None : goal.returns-in-None
returns-in-None c = ended reads_none c.args.line Before c.args.rest.now c.in-None.ensures
