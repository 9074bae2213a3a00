use Rattle.std.proofs.Common.{[], length, drop, arith, subst}
use Rattle.std.specs.Prelude.{OnErr, OnOk}
use Rattle.event_lines.specs.Pieces.{Fails, Sends, progress}
use Rattle.event_lines.specs.Spelled.{spelled_lines}
use Rattle.event_lines.proofs.Sending.{on_err, fails_early}
use Rattle.event_lines.proofs.Keeping.{whole_lines, rest_lines, sends_rest, fails_rest}
use Rattle.event_lines.proofs.Ending.{closed_lines}
use Rattle.event_lines.proofs.document_lines.send_document.Goals as goal

pub returns-then-has_room-clause-ok : goal.returns-then-has_room-clause-ok
returns-then-has_room-clause-ok g c =
    subst (λ q. OnOk c.send_whole.result (Sends (progress (g.O.Sink.taken c.args.sink.now) [] (g.O.Sink.faults c.args.sink.now)) (progress (g.O.Sink.taken c.send_whole.new.sink) [] (g.O.Sink.faults c.send_whole.new.sink)) q))
    (closed_lines c.args.spellings.now c.args.held.now c.codes-count.result.now c.args.codes.now c.args.closings c.closing_lines-end.result.now
    c.requires.holds c.requires.front c.codes-count.ensures (omega arith) c.requires.closings (c.closing_lines-end.ensures c.args.spellings.now))
    c.send_whole.ensures.ok

pub returns-then-has_room-clause-err : goal.returns-then-has_room-clause-err
returns-then-has_room-clause-err g c =
    subst (λ q. OnErr c.send_whole.result (Fails (progress (g.O.Sink.taken c.args.sink.now) [] (g.O.Sink.faults c.args.sink.now)) (progress (g.O.Sink.taken c.send_whole.new.sink) [] (g.O.Sink.faults c.send_whole.new.sink)) q))
    (closed_lines c.args.spellings.now c.args.held.now c.codes-count.result.now c.args.codes.now c.args.closings c.closing_lines-end.result.now
    c.requires.holds c.requires.front c.codes-count.ensures (omega arith) c.requires.closings (c.closing_lines-end.ensures c.args.spellings.now))
    c.send_whole.ensures.err

pub returns-in_err-send-clause-err : goal.returns-in_err-send-clause-err
returns-in_err-send-clause-err g c =
    let s = c.args.spellings.now in
    let h = c.args.held.now in
    on_err c.from_residual.result
    (subst (λ q. Fails (progress (g.O.Sink.taken c.args.sink.now) [] (g.O.Sink.faults c.args.sink.now)) (progress (g.O.Sink.taken c.send.new.sink) [] (g.O.Sink.faults c.send.new.sink)) q)
    (whole_lines s h c.args.codes.now c.requires.holds c.requires.front)
    (fails_early h.text (spelled_lines s (drop (length h.codes) c.args.codes.now)) c.in_err-send.ensures.err))

pub returns-clause-ok : goal.returns-clause-ok
returns-clause-ok g c =
    sends_rest c.put_codes.result (g.O.Sink.taken c.send.new.sink) (g.O.Sink.taken c.put_codes.new.sink) (g.O.Sink.faults c.send.new.sink) (g.O.Sink.faults c.put_codes.new.sink)
    c.clear.new.self c.put_codes.new.buffer _ _ _ c.in_ok-send.ensures.ok c.clear.ensures c.put_codes.ensures.empty c.put_codes.ensures.ok
    (rest_lines c.args.spellings.now c.args.held.now c.codes-count.result.now c.args.codes.now c.requires.holds c.requires.front c.codes-count.ensures)

pub returns-clause-err : goal.returns-clause-err
returns-clause-err g c =
    fails_rest c.put_codes.result (g.O.Sink.taken c.send.new.sink) (g.O.Sink.taken c.put_codes.new.sink) (g.O.Sink.faults c.send.new.sink) (g.O.Sink.faults c.put_codes.new.sink)
    c.clear.new.self c.put_codes.new.buffer _ _ _ c.in_ok-send.ensures.ok c.clear.ensures c.put_codes.ensures.err
    (rest_lines c.args.spellings.now c.args.held.now c.codes-count.result.now c.args.codes.now c.requires.holds c.requires.front c.codes-count.ensures)
