use Rattle.std.proofs.Common.{◌≡◌, [], flat_map, take}
use Rattle.event_lines.specs.Spelled.{spelled_line}
use Rattle.event_lines.specs.Pieces.{Sends, progress}
use Rattle.event_lines.proofs.codes.put_codes.Given as goal

abbrev pub invariant-loop-code : goal.invariant-loop-code
invariant-loop-code g l =
    Sends (progress (g.O.Sink.taken l.fn.sink) l.fn.buffer (g.O.Sink.faults l.fn.sink)) (progress (g.O.Sink.taken l.sink) l.buffer (g.O.Sink.faults l.sink)) (flat_map (spelled_line l.spellings) (take l.code-index l.codes))
    × (l.buffer ≡ [])
