use Rattle.std.proofs.Common.{◌+◌, length}
use Rattle.kept_elements.specs.Marking.{IsSearch, unmarked}
use Rattle.kept_elements.proofs.search.wanted.Given as goal

abbrev pub invariant-loop-id : goal.invariant-loop-id
invariant-loop-id l = IsSearch l.graph l.forms.pool l.forms.forms.items l.search

abbrev pub decreases-loop-id : goal.decreases-loop-id
decreases-loop-id l = unmarked l.search.marks.items + length l.search.stack.items
