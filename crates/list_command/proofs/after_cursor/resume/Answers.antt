use Rattle.std.proofs.Common.{refl}
use Rattle.feasibility.specs.Tables.{lists}
use Rattle.command_words.specs.Requests.{request_of}
use Rattle.list_command.proofs.Exits.{ends_unwritten}
use Rattle.list_command.proofs.Causes.{read_causes, write_causes}
use Rattle.list_command.proofs.Calls.{rises_not}
use Rattle.list_command.proofs.Cursors.{ends_at_file}
use Rattle.list_command.proofs.Within.{none_written}
use Rattle.list_command.proofs.after_cursor.resume.Goals as goal

pub returns-in_default-clause-owed : goal.returns-in_default-clause-owed
returns-in_default-clause-owed g c = λ file files asks told words form read. ends_unwritten words files _ _ _ _ (request_of c.args.asked.now) form

pub returns-in_default-clause-calls : goal.returns-in_default-clause-calls
returns-in_default-clause-calls g c = rises_not _ _ _

pub returns-in-Ok-read_cursor-clause-owed : goal.returns-in-Ok-read_cursor-clause-owed
returns-in-Ok-read_cursor-clause-owed g c = λ file files asks told words form read.
    let cursor = c.in-Ok-read_cursor.ensures.read files told in
    rw c.in-Ok-read_cursor.ensures.kept
    (c.list_after-outcome.ensures.owed c.args.schema.schema file c.args.cursor.now c.in-Ok.ensures.asked asks files cursor _ words form read)

pub returns-in-Ok-read_cursor-clause-cause : goal.returns-in-Ok-read_cursor-clause-cause
returns-in-Ok-read_cursor-clause-cause g c = write_causes _ _ _ _ _ c.list_after-outcome.result c.in-Ok-read_cursor.ensures.kept c.list_after-outcome.ensures.cause

pub returns-in-Err-clause-owed : goal.returns-in-Err-clause-owed
returns-in-Err-clause-owed g c = λ file files asks told words form read.
    ends_at_file words files (request_of c.args.asked.now) form c.args.size.nodes file c.args.cursor.now c.args.schema.schema asks read _ _ _ _
    (lists c.in-Ok.table) c.in-Ok.ensures.asked.lists c.in-Err.outcome (c.in-Err.ensures.owed files told)

pub returns-in-Err-clause-cause : goal.returns-in-Err-clause-cause
returns-in-Err-clause-cause g c = read_causes _ _ _ _ _ c.in-Err.outcome refl c.in-Err.ensures.cause

pub returns-in_default-clause-within : goal.returns-in_default-clause-within
returns-in_default-clause-within g c = none_written c.args.schema.schema (request_of c.args.asked.now) c.args.size.nodes _ _ _ c.args.steps.now

pub returns-in-Ok-read_cursor-clause-within : goal.returns-in-Ok-read_cursor-clause-within
returns-in-Ok-read_cursor-clause-within g c =
    c.list_after-outcome.ensures.within c.args.schema.schema c.in-Ok.ensures.asked c.in-Ok.ensures.empty c.in-Ok.ensures.unspent

pub returns-in-Err-clause-within : goal.returns-in-Err-clause-within
returns-in-Err-clause-within g c = none_written c.args.schema.schema (request_of c.args.asked.now) c.args.size.nodes _ _ _ c.args.steps.now
