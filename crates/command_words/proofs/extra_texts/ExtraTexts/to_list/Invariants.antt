use Rattle.std.proofs.Common.{◌≡◌, length, take}
use Rattle.command_words.proofs.extra_texts.ExtraTexts.to_list.Given as goal

-- the texts before the position are in the list
abbrev pub invariant-loop-position : goal.invariant-loop-position
invariant-loop-position l = l.list ≡ take l.position l.fn.self
