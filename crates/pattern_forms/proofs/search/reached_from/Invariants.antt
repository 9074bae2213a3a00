use Rattle.std.proofs.Common.{◌+◌, length}
use Rattle.pattern_forms.specs.Searching.{IsSearch, unmarked}
use Rattle.pattern_forms.proofs.search.reached_from.Given as goal

abbrev pub invariant-loop-node : goal.invariant-loop-node
invariant-loop-node l = IsSearch l.graph l.contents l.start l.search

abbrev pub decreases-loop-node : goal.decreases-loop-node
decreases-loop-node l = unmarked l.search.marks.items + length l.search.stack.items
