-- All kinds are asked.
use Rattle.text_atoms.proofs.Grouping.{made_then}
use Rattle.text_atoms.proofs.alike.alike_atoms.Goals as goal

pub grouped-requires : goal.grouped-requires
grouped-requires c = (c.args.literals.now, rw c.as_slice.ensures.value c.in_ok-all.ensures)

pub returns : goal.returns
returns c = made_then c.grouped.result _ _ c.grouped.ensures (λ groups all. all c.args.literals.now (rw c.as_slice.ensures.value c.in_ok-all.ensures))
