-- Where a comparison has come to.
use Rattle.std.specs.Prelude.{◌≡◌, ℕ, ◌+◌, ◌*◌, ◌<◌}
use Rattle.std.specs.declared.cmp.Ordering.{Ordering}
use Rattle.rng_model.specs.Patterns.{pattern_cmp}
use Rattle.pattern_intern.specs.Comparisons.{tail_cmp}
use Rattle.pattern_intern.specs.Stored.{Stored, count, tree_at}
use Rattle.pattern_intern.specs.declared.compare.Step.{Step}
use Rattle.pattern_intern.specs.declared.compare.Step.TheVariants.{Found, Parts, Tails}

-- o is the order that the step leads to
abbrev pub IsStep : Stored → Ordering → Step → Type 0
IsStep s o (Found r) = r ≡ o
IsStep s o (Parts p q) = (p.0 < count s) × (q.0 < count s) × (pattern_cmp (tree_at s p.0) (tree_at s q.0) ≡ o)
IsStep s o (Tails p q) = (p.0 < count s) × (q.0 < count s) × (tail_cmp (tree_at s p.0) (tree_at s q.0) ≡ o)

-- a number that gets less with each step
abbrev pub size : Step → ℕ
size (Found r) = 0
size (Parts p q) = 2 * (p.0 + q.0) + 1
size (Tails p q) = 2 * (p.0 + q.0) + 2
