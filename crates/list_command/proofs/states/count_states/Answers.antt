use Rattle.feasibility.specs.Tables.{lists}
use Rattle.command_words.specs.Requests.{request_of}
use Rattle.list_command.proofs.Exits.{ends_unwritten}
use Rattle.list_command.proofs.Ends.{listing_cause}
use Rattle.list_command.proofs.Commands.{counting_ends}
use Rattle.list_command.proofs.states.count_states.Goals as goal

pub returns-in_default-clause-owed : goal.returns-in_default-clause-owed
returns-in_default-clause-owed g c = λ file files reads asks words form read. ends_unwritten words files _ _ _ _ (request_of c.args.asked.now) form

pub returns-clause-owed : goal.returns-clause-owed
returns-clause-owed g c = λ file files reads asks words form read.
    let only = c.owed_is_asked.ensures.states words files (request_of c.args.asked.now) c.args.size.nodes file c.args.schema.schema (lists c.in-Ok.table) form asks read c.in-Ok.ensures.asked.lists in
    rw c.outcome_of.ensures
    (counting_ends words files (request_of c.args.asked.now) form file c.args.schema.schema read c.in-Ok.table c.in-Ok.ensures.asked _ _ reads reads _ _ c.args.size.nodes asks
    c.owed_is_asked.ensures.form only c.write_counts-end.result c.write_counts-end.ensures.ends c.write_counts-end.ensures.cause)

pub returns-clause-cause : goal.returns-clause-cause
returns-clause-cause g c = rw c.outcome_of.ensures (listing_cause _ _ c.write_counts-end.result c.write_counts-end.ensures.cause)
