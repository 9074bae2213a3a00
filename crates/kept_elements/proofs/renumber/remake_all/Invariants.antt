use Rattle.kept_elements.specs.Numbering.{AreMade}
use Rattle.kept_elements.proofs.renumber.remake_all.Given as goal

abbrev pub invariant-loop-id : goal.invariant-loop-id
invariant-loop-id l = AreMade l.old l.pool l.kept l.marks l.id l.made.items
