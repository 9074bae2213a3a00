use Rattle.std.proofs.Common.{◌≡◌}
use Rattle.text_atoms.specs.declared.origin.Origin.TheVariants.{Fresh}
use Rattle.text_atoms.specs.Standing.{NoneBefore}
use Rattle.text_atoms.proofs.atoms.fresh_position.Given as goal

-- none before this one is the fresh text
abbrev pub invariant-loop-position : goal.invariant-loop-position
invariant-loop-position l = NoneBefore l.atoms l.position (λ a. a.1 ≡ Fresh)
