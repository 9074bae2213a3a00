use Rattle.pattern_forms.specs.Making.{IsMadeSo}
use Rattle.pattern_forms.proofs.make_all.Given as goal

abbrev pub invariant-loop-node : goal.invariant-loop-node
invariant-loop-node l = IsMadeSo l.graph l.node l.making
