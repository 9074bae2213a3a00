use Rattle.std.proofs.Common.{◌∙◌}
use Rattle.text_atoms.specs.Origins.{texts_of}
use Rattle.event_lines.specs.Parts.{text_line}
use Rattle.event_lines.proofs.Spelling.{piece_more}
use Rattle.event_lines.proofs.spellings.texts_of_atoms.Goals as goal

pub loop-position-preserved : goal.loop-position-preserved
loop-position-preserved c =
    piece_more (text_line 45) (texts_of c.args.atoms.now) c.loop-position.position c.get.result.now c.loop-position.lines c.push.new.self c.as_slice.result.now
    c.get.ensures c.loop-position.invariant c.in_ok-push.ensures (c.as_slice.ensures ∙ c.in_ok-line.ensures)
