use Rattle.std.proofs.Common.{arith}
use Rattle.std.specs.Prelude.{None}
use Rattle.feasibility.specs.Tables.{lists}
use Rattle.command_words.specs.Requests.{request_of}
use Rattle.list_command.proofs.Rows.{AreTextLaws}
use Rattle.list_command.proofs.Exits.{ends_unwritten}
use Rattle.list_command.proofs.Ends.{listing_cause}
use Rattle.list_command.proofs.Commands.{list_ends}
use Rattle.list_command.specs.Asking.{outcome_from}
use Rattle.list_command.proofs.Within.{none_written, writing_within, done_is_whole}
use Rattle.list_command.proofs.document_list.list.Goals as goal

pub returns-in_default-clause-owed : goal.returns-in_default-clause-owed
returns-in_default-clause-owed g c = λ file files reads asks words form read. ends_unwritten words files _ _ _ _ (request_of c.args.asked.now) form

pub returns-clause-owed : goal.returns-clause-owed
returns-clause-owed g c = λ file files reads asks words form read.
    let only = c.owed_is_asked.ensures.list words files (request_of c.args.asked.now) c.args.size.nodes file c.args.schema.schema (lists c.in-Ok.table) form asks read c.in-Ok.ensures.asked.lists in
    let texts : AreTextLaws = record { injective = c.texts_differ.ensures.injective; no_prefix = c.texts_differ.ensures.no_prefix } in
    rw c.outcome_of.ensures
    (list_ends words files (request_of c.args.asked.now) form file c.args.schema.schema read c.in-Ok.table c.in-Ok.ensures.asked _ _ reads reads _ _ c.args.size.nodes asks texts only
    c.write_listing-end.result c.write_listing-end.ensures.ends c.write_listing-end.ensures.cause)

pub write_listing-end-requires-clause-page : goal.write_listing-end-requires-clause-page
write_listing-end-requires-clause-page g c = c.has_page.ensures

pub returns-clause-cause : goal.returns-clause-cause
returns-clause-cause g c = rw c.outcome_of.ensures (listing_cause _ _ c.write_listing-end.result c.write_listing-end.ensures.cause)

pub returns-in_default-clause-within : goal.returns-in_default-clause-within
returns-in_default-clause-within g c = none_written c.args.schema.schema (request_of c.args.asked.now) c.args.size.nodes _ _ _ c.args.steps.now

pub returns-clause-within : goal.returns-clause-within
returns-clause-within g c =
    let t = c.in-Ok.table in
    let end = c.write_listing-end in
    let empty = c.in-Ok.ensures.empty in
    let texts : AreTextLaws = record { injective = c.texts_differ.ensures.injective; no_prefix = c.texts_differ.ensures.no_prefix } in
    rw c.outcome_of.ensures
    (writing_within texts t end.new.table end.ensures.kept c.args.schema.schema (request_of c.args.asked.now) c.in-Ok.ensures.asked c.holds.ensures c.args.size.nodes None c.args.asked.now.page
    _ _ c.args.steps.now c.args.steps.now end.new.steps (outcome_from end.result) (omega arith) end.ensures.costs
    (λ done. let whole = done_is_whole end.result done in (end.ensures.grown (omega (arith, empty)) whole, end.ensures.whole whole)))
