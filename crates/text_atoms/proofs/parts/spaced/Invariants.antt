use Rattle.std.proofs.Common.{◌+◌, ◌-◌, length}
use Rattle.text_atoms.proofs.Spaces.{longest, IsSpaced}
use Rattle.text_atoms.proofs.parts.spaced.Given as goal

-- the form with some spaces behind it, where fewer make a text that is taken
abbrev pub invariant-spaces : goal.invariant-spaces
invariant-spaces l = IsSpaced l.taken.keys l.form l.text

-- a text that is taken is no longer than the longest
abbrev pub decreases-spaces : goal.decreases-spaces
decreases-spaces l = longest l.taken.keys + 1 - length l.text
