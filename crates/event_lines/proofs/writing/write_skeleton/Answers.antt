use Rattle.event_lines.proofs.Written.{appended, front_appended, lines_of_skeleton}
use Rattle.event_lines.proofs.writing.write_skeleton.Goals as goal

pub returns-in-Ok-clause-ok : goal.returns-in-Ok-clause-ok
returns-in-Ok-clause-ok g c =
    appended (g.O.Sink.taken c.args.sink.now) c.new-buffer.result (g.O.Sink.taken c.put_events.new.sink) c.put_events.new.buffer _ _
    c.new-buffer.ensures c.in-Ok.ensures.empty (lines_of_skeleton c.events.result.now c.args.skeleton.now c.events.ensures.events) c.in-Ok.ensures.ok.grown

pub returns-in-Err-clause-err : goal.returns-in-Err-clause-err
returns-in-Err-clause-err g c =
    front_appended (g.O.Sink.taken c.args.sink.now) (g.O.Sink.taken c.put_events.new.sink) c.new-buffer.result _ _
    c.new-buffer.ensures (lines_of_skeleton c.events.result.now c.args.skeleton.now c.events.ensures.events) c.in-Err.ensures.err.front
