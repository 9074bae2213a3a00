use Rattle.std.proofs.Common.{arith}
use Rattle.std.specs.Prelude.{Some}
use Rattle.feasibility.specs.Tables.{lists}
use Rattle.command_words.specs.Requests.{request_of}
use Rattle.list_command.proofs.Rows.{AreTextLaws}
use Rattle.list_command.proofs.Cursors.{ends_too_large, ends_not_placed}
use Rattle.list_command.proofs.Commands.{kept_table, placed_listed, placed_few, after_ends}
use Rattle.list_command.specs.Asking.{outcome_from}
use Rattle.list_command.proofs.Within.{none_written, listing_within, writing_within, done_is_whole, not_done, keeps_itself}
use Rattle.list_command.proofs.after_cursor.list_after.Goals as goal

pub returns-then-nodes-size-clause-owed : goal.returns-then-nodes-size-clause-owed
returns-then-nodes-size-clause-owed g c = λ h file name is asks files cursor reads words form read.
    let large = c.if-nodes-size.true in
    let same = c.size.ensures in
    ends_too_large words files (request_of c.args.asked.now) form c.args.size.nodes file name h asks read _ reads reads _ c.args.table.now is c.args.cursor.now cursor
    (omega (arith, large, same))

pub returns-in-Err-clause-owed : goal.returns-in-Err-clause-owed
returns-in-Err-clause-owed g c = λ h file name is asks files cursor reads words form read.
    let small = c.if-nodes-size.false in
    let same = c.size.ensures in
    ends_not_placed words files (request_of c.args.asked.now) form c.args.size.nodes file name h asks read _ reads reads _ c.args.table.now is c.args.cursor.now cursor
    (omega (arith, small, same)) c.in-Err.outcome c.in-Err.ensures.refused

pub returns-clause-owed : goal.returns-clause-owed
returns-clause-owed g c = λ h file name is asks files cursor reads words form read.
    let r = request_of c.args.asked.now in
    let t = c.place_cursor.new.table in
    let now = kept_table c.args.table.now t h r c.in_default.ensures.kept is in
    let placed = c.in_default.ensures.placed in
    let texts : AreTextLaws = record { injective = c.texts_differ.ensures.injective; no_prefix = c.texts_differ.ensures.no_prefix } in
    let only = c.owed_is_asked.ensures.resume words files r c.args.size.nodes file name h (lists t) c.args.cursor.now form asks read now.lists cursor
    (placed_listed t h r c.args.size.nodes c.args.cursor.now now placed) (placed_few t h r c.args.size.nodes c.args.cursor.now now placed) in
    rw c.outcome_of.ensures
    (after_ends words files r form file h read t now _ _ reads reads _ _ c.args.size.nodes name c.args.cursor.now asks cursor placed texts only
    c.write_listing-end.result c.write_listing-end.ensures.ends c.write_listing-end.ensures.cause)

pub returns-then-nodes-size-clause-within : goal.returns-then-nodes-size-clause-within
returns-then-nodes-size-clause-within g c = λ h is empty unspent. none_written h (request_of c.args.asked.now) c.args.size.nodes _ _ _ c.args.steps.now

pub returns-in-Err-clause-within : goal.returns-in-Err-clause-within
returns-in-Err-clause-within g c = λ h is empty unspent u before written count own e f has.
    let t = c.args.table.now in
    let stopped = c.in-Err.ensures.stopped in
    listing_within t t (keeps_itself t) h (request_of c.args.asked.now) is c.holds.ensures u own c.args.size.nodes count c.args.steps.now c.place_cursor.new.steps c.in-Err.outcome
    (omega (arith, stopped)) (λ done. absurd (not_done t c.args.cursor.now c.in-Err.outcome c.in-Err.ensures.refused done))

pub returns-clause-within : goal.returns-clause-within
returns-clause-within g c = λ h is empty unspent.
    let r = (request_of c.args.asked.now) in
    let t = c.place_cursor.new.table in
    let end = c.write_listing-end in
    let now = kept_table c.args.table.now t h r c.in_default.ensures.kept is in
    let spent = c.in_default.ensures.spent in
    let grown = c.in_default.ensures.grown in
    let small = c.if-nodes-size.false in
    let same = c.size.ensures in
    let texts : AreTextLaws = record { injective = c.texts_differ.ensures.injective; no_prefix = c.texts_differ.ensures.no_prefix } in
    rw c.outcome_of.ensures
    (writing_within texts t end.new.table end.ensures.kept h r now c.holds-2.ensures c.args.size.nodes (Some c.args.cursor.now) c.args.asked.now.page
    _ _ c.place_cursor.new.steps c.args.steps.now end.new.steps (outcome_from end.result) (omega (arith, spent)) end.ensures.costs
    (λ done. let whole = done_is_whole end.result done in (end.ensures.grown (omega (arith, grown, empty, small, same)) whole, end.ensures.whole whole)))
