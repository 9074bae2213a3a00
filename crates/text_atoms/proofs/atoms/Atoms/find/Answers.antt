-- The position among the atoms.
use Rattle.text_atoms.proofs.atoms.Atoms.find.Goals as goal

pub returns-clause-found : goal.returns-clause-found
returns-clause-found c = rw (← c.self.view_is, ← c.as_slice.ensures.value) c.position.ensures.found
