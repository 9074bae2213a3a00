use Rattle.std.proofs.Common.{take}
use Rattle.rng_model.specs.Atoms.{Literals}
use Rattle.text_atoms.specs.Origins.{texts_of}
use Rattle.text_atoms.specs.Signatures.{AreAllValues, all_variants}
use Rattle.text_atoms.proofs.Grouping.{IsGrouping}
use Rattle.text_atoms.proofs.alike.group_all.Given as goal

-- the groups of the atoms before this one
abbrev pub invariant-loop-position : goal.invariant-loop-position
invariant-loop-position l = (literals : Literals) → AreAllValues literals all_variants l.all → IsGrouping literals l.all (take l.position (texts_of l.atoms)) l.groups l.seen.keys
