use Rattle.std.proofs.Common.{Contains, ◌↔◌, take}
use Rattle.rng_model.specs.Texts.{Text}
use Rattle.text_atoms.specs.Parts.{IsOfMarkedKinds}
use Rattle.text_atoms.proofs.rules.of_marked_kinds.Given as goal

-- the texts of the table before this one
abbrev pub invariant-loop-sample : goal.invariant-loop-sample
invariant-loop-sample l = (x : Text) → Contains l.texts.keys x ↔ IsOfMarkedKinds l.literals.kinds (take l.sample-index l.table) x
