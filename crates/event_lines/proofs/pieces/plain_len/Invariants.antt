use Rattle.std.proofs.Common.{◌≡◌, flat_map, take}
use Rattle.event_lines.specs.Escapes.{spelling}
use Rattle.event_lines.proofs.pieces.plain_len.Given as goal

abbrev pub invariant-loop-i : goal.invariant-loop-i
invariant-loop-i l = flat_map (spelling l.escapes) (take l.i l.bytes) ≡ take l.i l.bytes
