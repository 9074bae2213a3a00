use Rattle.std.proofs.Common.{◌≡◌, map, take}
use Rattle.text_atoms.specs.Origins.{texts_of}
use Rattle.event_lines.specs.Parts.{text_line}
use Rattle.event_lines.proofs.spellings.texts_of_atoms.Given as goal

abbrev pub invariant-loop-position : goal.invariant-loop-position
invariant-loop-position l = l.lines ≡ map (text_line 45) (take l.position (texts_of l.atoms))
