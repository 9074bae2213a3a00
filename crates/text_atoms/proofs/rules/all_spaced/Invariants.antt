use Rattle.std.proofs.Common.{length}
use Rattle.text_atoms.proofs.RuleTexts.{AreSpaced}
use Rattle.text_atoms.proofs.rules.all_spaced.Given as goal

-- the forms that aren't left are spaced
abbrev pub invariant-forms : goal.invariant-forms
invariant-forms l = AreSpaced l.taken.keys l.initial.forms.keys l.forms.keys l.texts.keys

abbrev pub decreases-forms : goal.decreases-forms
decreases-forms l = length l.forms.keys
