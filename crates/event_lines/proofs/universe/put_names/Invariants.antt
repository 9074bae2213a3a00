use Rattle.std.proofs.Common.{◌≡◌, [], flat_map, take}
use Rattle.event_lines.specs.Parts.{name_line}
use Rattle.event_lines.specs.Pieces.{Sends, progress}
use Rattle.event_lines.proofs.universe.put_names.Given as goal

abbrev pub invariant-loop-name : goal.invariant-loop-name
invariant-loop-name g l =
    Sends (progress (g.O.Sink.taken l.fn.sink) l.fn.buffer (g.O.Sink.faults l.fn.sink)) (progress (g.O.Sink.taken l.sink) l.buffer (g.O.Sink.faults l.sink)) (flat_map (name_line l.first) (take l.name-index l.names))
    × (l.buffer ≡ [])
