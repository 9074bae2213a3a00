use Rattle.std.proofs.Common.{flat_map, take}
use Rattle.event_lines.specs.Coded.{Counts, code_line, lists_of}
use Rattle.event_lines.proofs.counted.Measure.add_codes.Given as goal

abbrev pub invariant-loop-code : goal.invariant-loop-code
invariant-loop-code l = Counts l.fn.self l.self (flat_map (code_line (lists_of l.universe l.atoms)) (take l.code-index l.codes))
