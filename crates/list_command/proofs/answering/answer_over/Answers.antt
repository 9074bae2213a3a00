use Rattle.std.proofs.Common.{refl, ap, subst}
use Rattle.command_words.specs.Requests.{request_of, command_of}
use Rattle.list_command.proofs.Causes.{write_causes, causes_for, missed_for}
use Rattle.list_command.proofs.Calls.{rises_not, lists_file, resumes_file, universe_of_file, states_of_file, seeded_in_no_file, misses_cursor, calls_for_cursor}
use Rattle.list_command.specs.Ticks.{WritesWithin}
use Rattle.list_command.proofs.Accepted.{lists_to, resumes_to, universe_to, states_to}
use Rattle.list_command.proofs.answering.answer_over.Goals as goal

pub unreachable-unreachable : goal.unreachable-unreachable
unreachable-unreachable g c =
    seeded_in_no_file (request_of c.args.asked.now).command c.in-Seeded.number c.in-Seeded.size.nodes c.requires.in_file.0 (ap command_of c.in-Seeded.is) c.requires.in_file.1

pub returns-in-List-clause-owed : goal.returns-in-List-clause-owed
returns-in-List-clause-owed g c = λ file files told has.
    c.list.ensures.owed file files _ (lists_file (request_of c.args.asked.now).command c.in-List.size.nodes c.in-List.file.now file (ap command_of c.in-List.is) has)

pub returns-in-List-clause-cause : goal.returns-in-List-clause-cause
returns-in-List-clause-cause g c = write_causes _ _ _ _ _ c.list.result refl c.list.ensures.cause

pub returns-in-List-clause-calls : goal.returns-in-List-clause-calls
returns-in-List-clause-calls g c = rises_not _ _ _

pub returns-in-Resume-clause-owed : goal.returns-in-Resume-clause-owed
returns-in-Resume-clause-owed g c = λ file files told has.
    c.resume.ensures.owed file files (resumes_file (request_of c.args.asked.now).command c.in-Resume.size.nodes c.in-Resume.file.now file c.in-Resume.cursor.now (ap command_of c.in-Resume.is) has) told

pub returns-in-Resume-clause-cause : goal.returns-in-Resume-clause-cause
returns-in-Resume-clause-cause g c =
    causes_for _ _ _ _ _ _ _ c.resume.result refl (misses_cursor (request_of c.args.asked.now) _ c.in-Resume.size.nodes c.in-Resume.file.now c.in-Resume.cursor.now (ap command_of c.in-Resume.is)) c.resume.ensures.cause

pub returns-in-Resume-clause-misses : goal.returns-in-Resume-clause-misses
returns-in-Resume-clause-misses g c =
    missed_for _ _ _ (misses_cursor (request_of c.args.asked.now) _ c.in-Resume.size.nodes c.in-Resume.file.now c.in-Resume.cursor.now (ap command_of c.in-Resume.is)) c.resume.ensures.misses

pub returns-in-Resume-clause-calls : goal.returns-in-Resume-clause-calls
returns-in-Resume-clause-calls g c =
    calls_for_cursor (request_of c.args.asked.now) _ c.in-Resume.size.nodes c.in-Resume.file.now c.in-Resume.cursor.now _ _ (ap command_of c.in-Resume.is) c.resume.ensures.calls

pub returns-in-Universe-clause-owed : goal.returns-in-Universe-clause-owed
returns-in-Universe-clause-owed g c = λ file files told has.
    c.show_universe.ensures.owed file files _ (universe_of_file (request_of c.args.asked.now).command c.in-Universe.file.now file (ap command_of c.in-Universe.is) has)

pub returns-in-Universe-clause-cause : goal.returns-in-Universe-clause-cause
returns-in-Universe-clause-cause g c = write_causes _ _ _ _ _ c.show_universe.result refl c.show_universe.ensures.cause

pub returns-in-Universe-clause-calls : goal.returns-in-Universe-clause-calls
returns-in-Universe-clause-calls g c = rises_not _ _ _

pub returns-in-States-clause-owed : goal.returns-in-States-clause-owed
returns-in-States-clause-owed g c = λ file files told has.
    c.count_states.ensures.owed file files _ (states_of_file (request_of c.args.asked.now).command c.in-States.size.nodes c.in-States.file.now file (ap command_of c.in-States.is) has)

pub returns-in-States-clause-cause : goal.returns-in-States-clause-cause
returns-in-States-clause-cause g c = write_causes _ _ _ _ _ c.count_states.result refl c.count_states.ensures.cause

pub returns-in-States-clause-calls : goal.returns-in-States-clause-calls
returns-in-States-clause-calls g c = rises_not _ _ _

pub returns-in-List-clause-within : goal.returns-in-List-clause-within
returns-in-List-clause-within g c = λ n up.
    subst (λ k. WritesWithin c.args.steps.now c.list.new.steps c.args.schema.schema (request_of c.args.asked.now) k (g.O.Sink.taken c.args.out.now) (g.O.Sink.taken c.list.new.out) c.list.result)
    (lists_to (request_of c.args.asked.now).command c.in-List.size.nodes n c.in-List.file.now (ap command_of c.in-List.is) up) c.list.ensures.within

pub returns-in-Resume-clause-within : goal.returns-in-Resume-clause-within
returns-in-Resume-clause-within g c = λ n up.
    subst (λ k. WritesWithin c.args.steps.now c.resume.new.steps c.args.schema.schema (request_of c.args.asked.now) k (g.O.Sink.taken c.args.out.now) (g.O.Sink.taken c.resume.new.out) c.resume.result)
    (resumes_to (request_of c.args.asked.now).command c.in-Resume.size.nodes n c.in-Resume.file.now c.in-Resume.cursor.now (ap command_of c.in-Resume.is) up) c.resume.ensures.within

pub returns-in-Universe-clause-within : goal.returns-in-Universe-clause-within
returns-in-Universe-clause-within g c = λ n up. absurd (universe_to (request_of c.args.asked.now).command n c.in-Universe.file.now (ap command_of c.in-Universe.is) up)

pub returns-in-States-clause-within : goal.returns-in-States-clause-within
returns-in-States-clause-within g c = λ n up. absurd (states_to (request_of c.args.asked.now).command c.in-States.size.nodes n c.in-States.file.now (ap command_of c.in-States.is) up)
