use Rattle.std.proofs.Common.{◌≡◌, map, take}
use Rattle.text_atoms.specs.Signatures.{mark_of}
use Rattle.text_atoms.proofs.signature.Signature.of.Given as goal

-- the marks for the kinds before this one
abbrev pub invariant-loop-values : goal.invariant-loop-values
invariant-loop-values l = l.marks.items ≡ map (λ k. mark_of k l.text) (take l.values-index l.all)
