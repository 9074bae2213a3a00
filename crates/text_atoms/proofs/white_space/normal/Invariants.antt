use Rattle.std.proofs.Common.{◌≡◌, ◌++◌, length, string_bytes}
use denote.Text.{Utf8}
use denote.Shadow.{shadow}
use Rattle.rng_model.specs.Texts.{words, joined}
use Rattle.text_atoms.proofs.Words.{spaced}
use Rattle.text_atoms.proofs.white_space.normal.Given as goal

-- what was pushed, and what the rest adds to it, are the normal form
abbrev pub invariant-loop-word : goal.invariant-loop-word
invariant-loop-word l = shadow (Utf8 l.rest) × (joined (words l.fn.text) ≡ string_bytes l.form ++ spaced (words l.rest))

abbrev pub decreases-loop-word : goal.decreases-loop-word
decreases-loop-word l = length (words l.rest)
