use Rattle.std.proofs.Common.{refl, ◌∙◌, inl, inr, subst}
use Rattle.command_words.specs.Requests.{request_of}
use Rattle.list_command.proofs.Exits.{owes_missing, calls_as_needed}
use Rattle.list_command.proofs.Causes.{read_causes, causes_for, missed_for}
use Rattle.list_command.proofs.Calls.{missing_cursor, calls_over, misses_over}
use Rattle.list_command.specs.Runs.{IsSchemaOf}
use Rattle.list_command.specs.Ticks.{WritesWithin}
use Rattle.list_command.proofs.Within.{none_written}
use Rattle.list_command.proofs.Accepted.{schema_read}
use Rattle.list_command.proofs.answering.answer_in_file.Goals as goal

pub returns-in-Ok-clause-owed : goal.returns-in-Ok-clause-owed
returns-in-Ok-clause-owed g c = λ files told words form.
    rw (← c.in-Ok.ensures.kept)
    (c.answer_over.ensures.owed c.args.file.now files (c.read_file.ensures.same_files ∙ told) c.requires.in_file words form (c.in-Ok.ensures.accepted files told))

pub returns-in-Ok-clause-cause : goal.returns-in-Ok-clause-cause
returns-in-Ok-clause-cause g c =
    causes_for _ _ _ _ _ _ _ c.answer_over.result c.in-Ok.ensures.kept
    (missing_cursor (request_of c.args.asked.now) c.args.file.now c.in-Ok.schema.schema _ c.requires.in_file c.in-Ok.ensures.accepted)
    (rw c.read_file.ensures.same_files at c.answer_over.ensures.cause)

pub returns-in-Ok-clause-misses : goal.returns-in-Ok-clause-misses
returns-in-Ok-clause-misses g c =
    misses_over _ _ _ _ _ _ (λ missing words form. owes_missing words (request_of c.args.asked.now) c.args.file.now _ form c.requires.in_file missing)
    (missing_cursor (request_of c.args.asked.now) c.args.file.now c.in-Ok.schema.schema _ c.requires.in_file c.in-Ok.ensures.accepted)
    c.read_file.ensures.misses (rw c.read_file.ensures.same_files at c.answer_over.ensures.misses)

pub returns-in-Ok-clause-calls : goal.returns-in-Ok-clause-calls
returns-in-Ok-clause-calls g c =
    calls_over c.owed_is_asked.ensures.form c.owed_is_asked.ensures.files (request_of c.args.asked.now) c.args.file.now c.in-Ok.schema.schema _ _ _ _ c.requires.in_file
    c.in-Ok.ensures.accepted c.read_file.ensures.calls (rw c.read_file.ensures.same_files at c.answer_over.ensures.calls)

pub returns-in-Err-clause-owed : goal.returns-in-Err-clause-owed
returns-in-Err-clause-owed g c = λ files told words form.
    c.in-Err.ensures.owed files told words (request_of c.args.asked.now) form c.requires.in_file _ _

pub returns-in-Err-clause-cause : goal.returns-in-Err-clause-cause
returns-in-Err-clause-cause g c =
    causes_for _ _ _ _ _ _ _ c.in-Err.outcome refl (λ missing words form. owes_missing words (request_of c.args.asked.now) c.args.file.now _ form c.requires.in_file missing)
    (read_causes _ _ _ _ _ c.in-Err.outcome refl c.in-Err.ensures.cause)

pub returns-in-Err-clause-misses : goal.returns-in-Err-clause-misses
returns-in-Err-clause-misses g c =
    missed_for _ _ _ (λ missing words form. owes_missing words (request_of c.args.asked.now) c.args.file.now _ form c.requires.in_file missing) c.read_file.ensures.misses

pub returns-in-Err-clause-calls : goal.returns-in-Err-clause-calls
returns-in-Err-clause-calls g c = λ words form.
    calls_as_needed c.owed_is_asked.ensures.form words (request_of c.args.asked.now) form c.args.file.now _ _ _ c.requires.in_file c.read_file.ensures.calls

pub returns-in-Ok-clause-lists : goal.returns-in-Ok-clause-lists
returns-in-Ok-clause-lists g c = λ files told n h up schema.
    subst (λ k. WritesWithin c.args.steps.now c.answer_over.new.steps k (request_of c.args.asked.now) n (g.O.Sink.taken c.args.out.now) (g.O.Sink.taken c.answer_over.new.out) c.answer_over.result)
    (schema_read c.schemas_are_decided.ensures (request_of c.args.asked.now).command files c.args.file.now c.in-Ok.schema.schema h c.requires.in_file (c.in-Ok.ensures.accepted files told) schema)
    (c.answer_over.ensures.within n up)

pub returns-in-Ok-clause-accepted : goal.returns-in-Ok-clause-accepted
returns-in-Ok-clause-accepted g c = λ files told.
    let read = c.in-Ok.ensures.accepted files told in
    inr (c.in-Ok.schema.schema, IsSchemaOf.in_file c.args.file.now c.requires.in_file read.1 read.2)

pub returns-in-Err-clause-lists : goal.returns-in-Err-clause-lists
returns-in-Err-clause-lists g c = λ files told n h up schema. none_written h (request_of c.args.asked.now) n _ _ _ c.args.steps.now

pub returns-in-Err-clause-accepted : goal.returns-in-Err-clause-accepted
returns-in-Err-clause-accepted g c = λ files told. inl refl
