-- The set has one text more.
use Rattle.text_atoms.proofs.Sets.{inserted}
use Rattle.text_atoms.proofs.parts.add.Goals as goal

pub returns : goal.returns
returns c = inserted _ _ _ c.in_ok-insert.ensures.updates
