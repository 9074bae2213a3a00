-- One more mark is one more kind.
use Rattle.text_atoms.proofs.Marks.{marked-set}
use Rattle.text_atoms.proofs.literals.Literals.mark_kind.Goals as goal

pub returns-clause-marked : goal.returns-clause-marked
returns-clause-marked c = rw (← c.self.view_is) (marked-set c.self.inside.marked c.args.kind c.self.told)
