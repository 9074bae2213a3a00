-- Where a cursor leaves the listed documents: this project's own.
use Rattle.std.specs.Prelude.{ℕ, ◌<◌, ◌≤◌, length, take}
use Rattle.rng_model.specs.Patterns.{Schema}
use Rattle.rng_model.specs.Hedges.{Skeleton, size}
use Rattle.rng_model.specs.Events.{events}
use Rattle.rng_model.specs.Universe.{Lists}
use Rattle.table_laws.specs.Finishing.{BeginsListed}
use Rattle.cursor.specs.declared.placing.CursorFault.{CursorFault}
use Rattle.cursor.specs.declared.placing.CursorFault.TheVariants.{CursorTooLarge, CursorStray}

-- the first line through which the cursor's events begin no listed document of its size
pub record IsStrayAt (g : Schema) (u : Lists) (c : Skeleton) (line : ℕ) : Type 0 where
  pub from : 1 ≤ line
  pub to : line ≤ length (events c)
  pub stray : BeginsListed g u (size c) (take line (events c)) → ⊥
  pub first : (k : ℕ) → 1 ≤ k → k < line → BeginsListed g u (size c) (take k (events c))

-- the size is over n, or the cursor isn't listed
abbrev pub IsRefused : Schema → Lists → ℕ → Skeleton → CursorFault → Type 0
IsRefused g u n c CursorTooLarge = n < size c
IsRefused g u n c (CursorStray line) = (size c ≤ n) × IsStrayAt g u c line
