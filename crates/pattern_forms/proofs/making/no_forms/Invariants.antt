use Rattle.std.proofs.Common.{◌≡◌, length}
use Rattle.pattern_forms.specs.Making.{IsUnmade}
use Rattle.pattern_forms.proofs.making.no_forms.Given as goal

abbrev pub invariant-loop-node : goal.invariant-loop-node
invariant-loop-node l = (length l.forms.items ≡ l._node) × IsUnmade l.forms.items
