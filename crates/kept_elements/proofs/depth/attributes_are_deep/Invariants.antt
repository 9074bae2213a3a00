use Rattle.kept_elements.specs.Depths.{NoneBelow, IsDeepMarked}
use Rattle.kept_elements.proofs.depth.attributes_are_deep.Given as goal

abbrev pub invariant-loop-id : goal.invariant-loop-id
invariant-loop-id l = NoneBelow (IsDeepMarked l.pool l.marks) l.id
