-- The forms of the first members are listed.
use Rattle.pattern_forms.specs.Making.{AreForms}
use Rattle.pattern_forms.proofs.joining.forms_of.Given as goal

abbrev pub invariant-loop-k : goal.invariant-loop-k
invariant-loop-k l = AreForms l.pool l.forms l.members l.k l.parts.items
