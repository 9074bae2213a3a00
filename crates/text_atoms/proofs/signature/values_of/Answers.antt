-- The set has the values' forms alone.
use Rattle.std.proofs.Common.{refl}
use Rattle.text_atoms.proofs.Signatures.{values_made}
use Rattle.text_atoms.proofs.signature.values_of.Goals as goal

pub returns : goal.returns
returns c = record { kind = refl; marked = c.has_kind.ensures; values = values_made c.args.literals.now c.args.kind _ _ _ c.new-values.ensures.empty c.members.ensures c.in_ok-gather.ensures }
