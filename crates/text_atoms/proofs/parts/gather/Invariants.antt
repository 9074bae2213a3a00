use Rattle.std.proofs.Common.{◌↔◌, ◌⊎◌, take, Contains}
use Rattle.rng_model.specs.Texts.{Text}
use Rattle.text_atoms.specs.Literals.{members_of}
use Rattle.text_atoms.specs.Parts.{parts_of}
use Rattle.text_atoms.proofs.parts.gather.Given as goal

-- the set has its first texts and the part of the literals before this one
abbrev pub invariant-loop-member : goal.invariant-loop-member
invariant-loop-member l =
    (x : Text) → Contains l.texts.keys x ↔ (Contains l.initial.texts.keys x ⊎ Contains (parts_of l.part (members_of (take l.member-index l.members))) x)
