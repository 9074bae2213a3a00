use Rattle.pattern_forms.specs.Making.{IsNested, connective_of}
use Rattle.pattern_forms.proofs.joining.nested.Given as goal

abbrev pub invariant-loop-k : goal.invariant-loop-k
invariant-loop-k l = IsNested (connective_of l.joint) l.forms l.members l.k l.fn.pool l.pool l.made.0
