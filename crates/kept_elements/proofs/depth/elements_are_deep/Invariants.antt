use Rattle.kept_elements.specs.Depths.{NoneBelow, IsDeepAt}
use Rattle.kept_elements.proofs.depth.elements_are_deep.Given as goal

abbrev pub invariant-loop-k : goal.invariant-loop-k
invariant-loop-k l = NoneBelow (IsDeepAt l.graph l.forms.pool l.forms.forms.items l.kept) l.k
