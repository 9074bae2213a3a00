use Rattle.std.proofs.Common.{◌≡◌, length}
use Rattle.std.specs.Str.{bytes_eq}
use denote.Text.{Utf8}
use denote.Shadow.{shadow}
use Rattle.rng_model.specs.Texts.{words, joined}
use Rattle.text_atoms.proofs.Words.{spaced}
use Rattle.text_atoms.proofs.white_space.normal_equal.Given as goal

-- what is left of the texts makes equal normal forms exactly where the texts do
abbrev pub invariant-loop-word : goal.invariant-loop-word
invariant-loop-word l = shadow (Utf8 l.left) × shadow (Utf8 l.right) × (bytes_eq (spaced (words l.left)) (spaced (words l.right)) ≡ bytes_eq (joined (words l.fn.a)) (joined (words l.fn.b)))

abbrev pub decreases-loop-word : goal.decreases-loop-word
decreases-loop-word l = length (words l.left)
