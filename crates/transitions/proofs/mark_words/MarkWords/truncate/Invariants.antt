use Rattle.std.proofs.Common.{◌≡◌}
use Rattle.transitions.specs.Bits.{AreCut}
use Rattle.transitions.proofs.mark_words.MarkWords.truncate.Given as goal

abbrev pub invariant-loop-rest : goal.invariant-loop-rest
invariant-loop-rest l = (l.self-inside.words ≡ l.initial.self-inside.words) × AreCut l.initial.self-inside.lens.items l.self-inside.lens.items l.count l.rest
