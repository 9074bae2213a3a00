use Rattle.std.specs.Prelude.{codes}
use Rattle.std.proofs.Common.{flat_map, arith}
use Rattle.event_lines.specs.Spelled.{spelled_line}
use Rattle.event_lines.proofs.Sending.{on_err, err_then}
use Rattle.event_lines.proofs.Listing.{item_is, sends_item, fails_item, all_sent}
use Rattle.event_lines.proofs.codes.put_codes.Goals as goal

pub returns-in_err-put_code-clause-err : goal.returns-in_err-put_code-clause-err
returns-in_err-put_code-clause-err g c =
    on_err c.from_residual.result (fails_item (spelled_line c.args.spellings.now) c.loop-code.code-index c.args.codes.now _ (codes "\n") (omega arith) (item_is c.loop-code.code-index c.args.codes.now _ (omega arith)) c.loop-code.invariant.0 c.in_err-put_code.ensures.err)

pub loop-code-preserved : goal.loop-code-preserved
loop-code-preserved g c =
    (sends_item (spelled_line c.args.spellings.now) c.loop-code.code-index c.args.codes.now _ (omega arith) (item_is c.loop-code.code-index c.args.codes.now _ (omega arith)) c.loop-code.invariant.0 c.in_ok-put_code.ensures.ok, c.in_ok-put_code.ensures.empty)

pub returns-clause-err : goal.returns-clause-err
returns-clause-err g c =
    let line = spelled_line c.args.spellings.now in
    let sent = all_sent line c.loop-code.code-index c.args.codes.now (omega arith) c.loop-code.invariant.0 in
    err_then _ c.send_line.result (flat_map line c.args.codes.now) (codes "\n") sent c.send_line.ensures.err
