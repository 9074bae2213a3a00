use Rattle.std.specs.Prelude.{codes}
use Rattle.std.proofs.Common.{flat_map, arith}
use Rattle.rng_model.specs.Lines.{event_line}
use Rattle.skeleton.specs.Views.{event_of}
use Rattle.event_lines.proofs.Sending.{on_err, err_then}
use Rattle.event_lines.proofs.Listing.{sends_item, fails_item, all_sent}
use Rattle.event_lines.proofs.lines.put_events.Goals as goal

pub returns-in_err-put_event-clause-err : goal.returns-in_err-put_event-clause-err
returns-in_err-put_event-clause-err g c =
    on_err c.from_residual.result (fails_item (λ e. event_line (event_of e)) c.loop-event.event-index c.args.events.now c.event-item.result (codes "\n") (omega arith) c.event-item.is c.loop-event.invariant c.in_err-put_event.ensures.err)

pub loop-event-preserved : goal.loop-event-preserved
loop-event-preserved g c =
    sends_item (λ e. event_line (event_of e)) c.loop-event.event-index c.args.events.now c.event-item.result (omega arith) c.event-item.is c.loop-event.invariant c.in_ok-put_event.ensures.ok

pub returns-clause-err : goal.returns-clause-err
returns-clause-err g c =
    let sent = all_sent (λ e. event_line (event_of e)) c.loop-event.event-index c.args.events.now (omega arith) c.loop-event.invariant in
    err_then _ c.put_line.result (flat_map (λ e. event_line (event_of e)) c.args.events.now) (codes "\n") sent c.put_line.ensures.err
