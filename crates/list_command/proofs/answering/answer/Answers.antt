use Rattle.std.proofs.Common.{refl, ap}
use Rattle.list_command.proofs.Causes.{write_causes}
use Rattle.list_command.proofs.Calls.{no_calls, has_some_file, seeded_in_no_file}
use Rattle.command_words.specs.Requests.{request_of, command_of}
use Rattle.list_command.proofs.Accepted.{seeded_to, made_within, made_accepted}
use Rattle.list_command.proofs.answering.answer.Goals as goal

pub returns-in-Seeded-clause-owed : goal.returns-in-Seeded-clause-owed
returns-in-Seeded-clause-owed g c = λ files told words form. c.sum_seeded.ensures.owed (rw c.in-Seeded.is refl) words files form _

pub returns-in-Seeded-clause-cause : goal.returns-in-Seeded-clause-cause
returns-in-Seeded-clause-cause g c = write_causes _ _ _ _ _ c.sum_seeded.result refl c.sum_seeded.ensures.cause

pub returns-in-Seeded-clause-calls : goal.returns-in-Seeded-clause-calls
returns-in-Seeded-clause-calls g c = λ words form. no_calls words _ _

pub unreachable-requires : goal.unreachable-requires
unreachable-requires g c = has_some_file c.args.asked.now.command c.in_default.not-Seeded c.in_default-file.ensures.none

pub returns-in-Seeded-clause-lists : goal.returns-in-Seeded-clause-lists
returns-in-Seeded-clause-lists g c = λ files told n h up schema.
    absurd (seeded_to (request_of c.args.asked.now).command c.in-Seeded.number c.in-Seeded.size.nodes n (ap command_of c.in-Seeded.is) up)

pub returns-in-Seeded-clause-sums : goal.returns-in-Seeded-clause-sums
returns-in-Seeded-clause-sums g c = λ z n h asks accepts.
    made_within (request_of c.args.asked.now) c.in-Seeded.number c.in-Seeded.size.nodes (ap command_of c.in-Seeded.is) c.args.steps.now c.sum_seeded.new.steps c.sum_seeded.result
    c.sum_seeded.ensures.within z n h asks accepts

pub returns-in-Seeded-clause-accepted : goal.returns-in-Seeded-clause-accepted
returns-in-Seeded-clause-accepted g c = λ files told.
    made_accepted (request_of c.args.asked.now) files c.in-Seeded.number c.in-Seeded.size.nodes (ap command_of c.in-Seeded.is) c.args.steps.now c.sum_seeded.new.steps c.sum_seeded.ensures.accepted

pub returns-clause-sums : goal.returns-clause-sums
returns-clause-sums g c = λ z n h asks. absurd (seeded_in_no_file (request_of c.args.asked.now).command z n c.in-Some.file.now asks c.in-Some.ensures.some)
