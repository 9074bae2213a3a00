use Rattle.std.proofs.Common.{take}
use Rattle.text_atoms.specs.Signatures.{AreAllValues}
use Rattle.text_atoms.proofs.signature.all_values.Given as goal

-- those of the kinds before this one
abbrev pub invariant-loop-kind : goal.invariant-loop-kind
invariant-loop-kind l = AreAllValues l.literals (take l.kind-index l.kinds) l.all.items
