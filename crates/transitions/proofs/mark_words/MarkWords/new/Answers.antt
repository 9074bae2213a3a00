use Rattle.std.proofs.Common.{ℕ, List, ap}
use Rattle.transitions.specs.Bits.{columns}
use Rattle.transitions.proofs.mark_words.MarkWords.new.Goals as goal

pub returns : goal.returns
returns c = ap (λ (lens : List ℕ). columns 0 c.new.result.items lens) c.new-2.ensures.items
