use Rattle.std.proofs.Common.{flat_map, take}
use Rattle.event_lines.specs.Escapes.{spelling}
use Rattle.event_lines.specs.Coded.{Counts}
use Rattle.event_lines.proofs.counted.Measure.add_escaped.Given as goal

abbrev pub invariant-loop-byte : goal.invariant-loop-byte
invariant-loop-byte l = Counts l.fn.self l.self (flat_map (spelling l.escapes) (take l.byte-index l.bytes))
