use Rattle.std.proofs.Common.{◌≤◌, ◌-◌, flat_map, length, take}
use Rattle.event_lines.specs.Escapes.{spelling}
use Rattle.event_lines.specs.Pieces.{Sends, progress}
use Rattle.event_lines.proofs.pieces.put_escaped.Given as goal

abbrev pub invariant-loop-done : goal.invariant-loop-done
invariant-loop-done g l = record {
  within : l.done ≤ length l.bytes;
  sent : Sends (progress (g.O.Sink.taken l.fn.sink) l.fn.buffer (g.O.Sink.faults l.fn.sink)) (progress (g.O.Sink.taken l.sink) l.buffer (g.O.Sink.faults l.sink)) (flat_map (spelling l.escapes) (take l.done l.bytes));
}

abbrev pub decreases-loop-done : goal.decreases-loop-done
decreases-loop-done g l = length l.bytes - l.done
