-- A position's group is one of those counted.
use Rattle.std.proofs.Common.{}
use Rattle.text_atoms.proofs.Numbering.{group_below}
use Rattle.text_atoms.proofs.groups.Groups.group.Goals as goal

pub returns-clause-below : goal.returns-clause-below
returns-clause-below c = rw (← c.self.view_is) (group_below _ c.args.position _ (rw (← c.self.view_is) at c.requires) c.index.ensures)
