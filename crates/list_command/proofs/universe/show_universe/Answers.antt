use Rattle.std.proofs.Common.{[], refl}
use Rattle.event_lines.specs.Coded.{lists_of}
use Rattle.event_lines.specs.Parts.{universe_text}
use Rattle.command_words.specs.Words.{Command}
use Rattle.command_words.specs.Requests.{request_of}
use Rattle.list_command.specs.Owed.{OwesAccepted}
use Rattle.list_command.proofs.Listings.{owes_accepted}
use Rattle.list_command.proofs.Exits.{ends_unwritten, ends_written, ends_cut}
use Rattle.list_command.proofs.universe.show_universe.Goals as goal

pub returns-in_default-clause-owed : goal.returns-in_default-clause-owed
returns-in_default-clause-owed g c = λ file files reads asks words form read. ends_unwritten words files _ _ _ _ (request_of c.args.asked.now) form

pub returns-in-Ok-write_universe-clause-owed : goal.returns-in-Ok-write_universe-clause-owed
returns-in-Ok-write_universe-clause-owed g c = λ file files reads asks words form read.
    let owes = owes_accepted words files (request_of c.args.asked.now) file c.args.schema.now.schema (Command.universe file) form asks refl read (OwesAccepted.universe c.in-Ok.ensures refl) in
    let text = universe_text (lists_of c.in-Ok.universe c.in-Ok.atoms) in
    ends_written words files _ _ reads reads _ _ text text owes refl c.in-Ok-write_universe.ensures.ok

pub returns-clause-owed : goal.returns-clause-owed
returns-clause-owed g c = λ file files reads asks words form read.
    let owes = owes_accepted words files (request_of c.args.asked.now) file c.args.schema.now.schema (Command.universe file) form asks refl read (OwesAccepted.universe c.in-Ok.ensures refl) in
    let text = universe_text (lists_of c.in-Ok.universe c.in-Ok.atoms) in
    ends_cut words files _ _ reads reads _ _ text text owes refl c.one_is_owed.ensures c.in-Err.ensures.cause.failed c.in-Err.ensures.err
