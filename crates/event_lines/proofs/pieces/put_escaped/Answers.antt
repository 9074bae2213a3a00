use Rattle.event_lines.specs.Escapes.{spelling}
use Rattle.event_lines.proofs.Sending.{on_err}
use Rattle.event_lines.proofs.Escaping.{fails_rest, sends_more, within_whole}
use Rattle.event_lines.proofs.pieces.put_escaped.Goals as goal

pub returns-in_err-done-clause-err : goal.returns-in_err-done-clause-err
returns-in_err-done-clause-err g c =
    on_err c.from_residual.result (fails_rest (spelling c.args.escapes) c.loop-done.done c.args.bytes.now c.loop-done.invariant.sent c.in_err-done.ensures.err)

pub loop-done-preserved : goal.loop-done-preserved
loop-done-preserved g c = record {
  within = within_whole c.loop-done.done c.in_ok-done.field-0 c.args.bytes.now c.loop-done.invariant.within c.in_ok-done.ensures.within;
  sent = sends_more (spelling c.args.escapes) c.loop-done.done c.in_ok-done.field-0 c.args.bytes.now c.loop-done.invariant.sent c.in_ok-done.ensures.ok;
}
