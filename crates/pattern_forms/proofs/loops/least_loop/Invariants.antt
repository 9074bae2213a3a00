use Rattle.pattern_forms.specs.Searching.{IsLeastSo}
use Rattle.pattern_forms.proofs.loops.least_loop.Given as goal

abbrev pub invariant-loop-node : goal.invariant-loop-node
invariant-loop-node l = IsLeastSo l.graph l.node l.least
