use Rattle.std.proofs.Common.{◌∙◌, ap}
use Rattle.text_atoms.proofs.Zeros.{behind, after_zeros}
use Rattle.rng_model.specs.Kinds.{without_zeros}
use Rattle.text_atoms.proofs.integer.magnitude.Goals as goal

pub range_from-requires : goal.range_from-requires
range_from-requires c = let h = after_zeros c.without_sign-digits.result.now c.without_sign-digits.utf8 in rw (c.zero_count.ensures.value, c.as_bytes.ensures.value) (λ l. h)

pub returns : goal.returns
returns c = c.range_from.ensures.value ∙ rw (c.zero_count.ensures.value, c.as_bytes.ensures.value) (behind c.without_sign-digits.result.now) ∙ ap without_zeros c.without_sign-digits.ensures
