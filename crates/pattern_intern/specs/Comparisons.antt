-- The order of patterns part by part.
use Rattle.std.specs.Prelude.{⊤}
use Rattle.std.specs.declared.cmp.Ordering.{Ordering}
use Rattle.std.specs.Ordering.{nat_cmp}
use Rattle.std.specs.Cmp.Lexicographic.{slice_cmp}
use Rattle.rng_model.specs.Patterns.{Pattern, choice, pattern_keys}

-- the order as the last members of choices
abbrev pub tail_cmp : Pattern → Pattern → Ordering
tail_cmp p q = slice_cmp nat_cmp (pattern_keys p).1 (pattern_keys q).1

-- no choice
abbrev pub IsPlain : Pattern → Type 0
IsPlain (choice p q) = ⊥
IsPlain p = ⊤
