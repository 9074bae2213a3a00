-- The part of the literal is the text.
use Rattle.std.proofs.Common.{sym, ◌∙◌}
use Rattle.text_atoms.proofs.Sets.{part_added}
use Rattle.text_atoms.proofs.parts.add_part.Goals as goal

pub returns : goal.returns
returns c = part_added _ _ (sym c.in_ok-text.ensures ∙ c.in-Some.is) _ _ c.in_ok-add.ensures
