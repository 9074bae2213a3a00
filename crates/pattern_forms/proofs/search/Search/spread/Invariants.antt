use Rattle.pattern_forms.specs.Searching.{IsTaking}
use Rattle.pattern_forms.proofs.search.Search.spread.Given as goal

abbrev pub invariant-loop-k : goal.invariant-loop-k
invariant-loop-k l = IsTaking l.graph l.contents l.node l.k l.fn.self l.self
