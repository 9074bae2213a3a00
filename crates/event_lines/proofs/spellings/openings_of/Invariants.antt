use Rattle.std.proofs.Common.{◌≡◌, map, take}
use Rattle.event_lines.specs.Parts.{name_line}
use Rattle.event_lines.proofs.spellings.openings_of.Given as goal

abbrev pub invariant-loop-name : goal.invariant-loop-name
invariant-loop-name l = l.lines ≡ map (name_line 40) (take l.name-index l.names)
