use Rattle.std.proofs.Common.{◌==◌, sym, ◌∙◌, ap, w64}
use Rattle.std.proofs.lemmas.Nat.Bits.{bit_at_clear_other, bit_at_clear_same, bit_at_set_other, bit_at_set_same}
use Rattle.transitions.proofs.mark_words.with_bit.Goals as goal

pub returns-then-mark-clause-itself : goal.returns-then-mark-clause-itself
returns-then-mark-clause-itself c = ap (λ n. n == 1) (bit_at_set_same w64 c.args.word c.args.rest c.requires) ∙ sym c.if-mark.true

pub returns-then-mark-clause-others : goal.returns-then-mark-clause-others
returns-then-mark-clause-others c = λ k l n. ap (λ m. m == 1) (bit_at_set_other w64 c.args.word c.args.rest c.requires k n)

pub returns-else-mark-clause-itself : goal.returns-else-mark-clause-itself
returns-else-mark-clause-itself c = ap (λ n. n == 1) (bit_at_clear_same w64 c.args.word c.args.rest c.requires) ∙ sym c.if-mark.false

pub returns-else-mark-clause-others : goal.returns-else-mark-clause-others
returns-else-mark-clause-others c = λ k l n. ap (λ m. m == 1) (bit_at_clear_other w64 c.args.word c.args.rest c.requires k l n)
