use Rattle.std.proofs.Common.{◌≡◌, [], flat_map, take}
use Rattle.text_atoms.specs.Origins.{texts_of}
use Rattle.event_lines.specs.Parts.{text_line}
use Rattle.event_lines.specs.Pieces.{Sends, progress}
use Rattle.event_lines.proofs.universe.put_texts.Given as goal

abbrev pub invariant-loop-position : goal.invariant-loop-position
invariant-loop-position g l =
    Sends (progress (g.O.Sink.taken l.fn.sink) l.fn.buffer (g.O.Sink.faults l.fn.sink)) (progress (g.O.Sink.taken l.sink) l.buffer (g.O.Sink.faults l.sink)) (flat_map (text_line 84) (take l.position (texts_of l.atoms)))
    × (l.buffer ≡ [])
