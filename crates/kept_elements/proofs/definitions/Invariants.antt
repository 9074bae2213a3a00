use Rattle.kept_elements.specs.Outcomes.{AreSomeEntries}
use Rattle.kept_elements.proofs.definitions.Given as goal

abbrev pub invariant-loop-k : goal.invariant-loop-k
invariant-loop-k l = AreSomeEntries l.graph l.forms.pool l.remade.pool l.forms.forms.items l.kept l.k l.definitions
