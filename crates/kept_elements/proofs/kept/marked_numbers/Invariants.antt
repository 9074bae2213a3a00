use Rattle.kept_elements.specs.Numbering.{AreNumbers}
use Rattle.kept_elements.proofs.kept.marked_numbers.Given as goal

abbrev pub invariant-loop-number : goal.invariant-loop-number
invariant-loop-number l = AreNumbers l.marks l.number l.numbers.items
