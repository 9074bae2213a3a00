use Rattle.std.proofs.Common.{flat_map, take}
use Rattle.rng_model.specs.Lines.{event_line}
use Rattle.skeleton.specs.Views.{event_of}
use Rattle.event_lines.specs.Pieces.{Sends, progress}
use Rattle.event_lines.proofs.lines.put_events.Given as goal

abbrev pub invariant-loop-event : goal.invariant-loop-event
invariant-loop-event g l =
    Sends (progress (g.O.Sink.taken l.fn.sink) l.fn.buffer (g.O.Sink.faults l.fn.sink)) (progress (g.O.Sink.taken l.sink) l.buffer (g.O.Sink.faults l.sink)) (flat_map (λ e. event_line (event_of e)) (take l.event-index l.events))
