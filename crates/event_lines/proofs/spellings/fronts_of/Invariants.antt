use Rattle.std.proofs.Common.{◌≡◌, map, take}
use Rattle.event_lines.specs.Parts.{attribute_front}
use Rattle.event_lines.proofs.spellings.fronts_of.Given as goal

abbrev pub invariant-loop-name : goal.invariant-loop-name
invariant-loop-name l = l.fronts ≡ map attribute_front (take l.name-index l.names)
