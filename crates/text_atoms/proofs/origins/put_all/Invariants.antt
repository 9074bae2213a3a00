use Rattle.text_atoms.specs.Origins.{origin_in}
use Rattle.std.proofs.Common.{length}
use Rattle.text_atoms.proofs.Extending.{IsPutInto}
use Rattle.text_atoms.proofs.origins.put_all.Given as goal

-- what isn't left is put
abbrev pub invariant-texts : goal.invariant-texts
invariant-texts l = IsPutInto (origin_in l.initial.atoms) (origin_in l.atoms) l.origin l.initial.texts.keys l.texts.keys

abbrev pub decreases-texts : goal.decreases-texts
decreases-texts l = length l.texts.keys
