use Rattle.std.proofs.Common.{Contains, take}
use Rattle.text_atoms.specs.Origins.{origin_in, Extends}
use Rattle.text_atoms.specs.declared.origin.Origin.TheVariants.{Extra}
use Rattle.text_atoms.proofs.origins.put_extra.Given as goal

-- the texts before this one are put
abbrev pub invariant-loop-text : goal.invariant-loop-text
invariant-loop-text l = Extends (origin_in l.initial.atoms) (origin_in l.atoms) Extra (Contains (take l.text-index l.extra))
