use Rattle.std.proofs.Common.{arith}
use Rattle.text_atoms.proofs.Zeros.{after_sign}
use Rattle.text_atoms.proofs.integer.without_sign.Goals as goal

pub range_from-requires : goal.range_from-requires
range_from-requires c = λ l. after_sign c.args.number.now c.as_bytes.result.now c.as_bytes.ensures.value c.utf8.number c.in-43.len_at_least (grind arith)
