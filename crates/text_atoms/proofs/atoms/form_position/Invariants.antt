use Rattle.text_atoms.specs.Standing.{IsFormAtom, NoneBefore}
use Rattle.text_atoms.proofs.atoms.form_position.Given as goal

-- none before this one
abbrev pub invariant-loop-position : goal.invariant-loop-position
invariant-loop-position l = NoneBefore l.atoms l.position (λ a. IsFormAtom a l.text)
