-- The kind is marked at its place.
use Rattle.text_atoms.proofs.Marks.{marked-read}
use Rattle.text_atoms.proofs.literals.Literals.has_kind.Goals as goal

pub returns : goal.returns
returns c = rw (← c.self.view_is) (marked-read c.self.inside.marked c.args.kind)
