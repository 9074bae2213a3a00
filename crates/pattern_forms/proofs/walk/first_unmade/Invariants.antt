use Rattle.pattern_forms.specs.Making.{AreMadeFrom}
use Rattle.pattern_forms.proofs.walk.first_unmade.Given as goal

abbrev pub invariant-loop-k : goal.invariant-loop-k
invariant-loop-k l = AreMadeFrom l.graph l.forms l.frame.node l.frame.next l.k
