-- Which cursors are refused: this project's own.
use Rattle.std.specs.Prelude.{◌≡◌, ℕ, ◌<◌, ◌≤◌, List, length, take}
use Rattle.rng_model.specs.Patterns.{Schema}
use Rattle.rng_model.specs.Hedges.{Skeleton, size}
use Rattle.rng_model.specs.Events.{events}
use Rattle.rng_model.specs.Universe.{Lists}
use Rattle.line_laws.specs.LineRefusals.{LineFault, BadLine, Unfinished, Trailing, NotOrdered, LineRefusal}
use Rattle.table_laws.specs.Finishing.{BeginsListed}
use Rattle.list_command.specs.declared.outcome.CursorRefusal.{CursorRefusal}

-- the most bytes that a cursor may have
abbrev pub cursor_limit : ℕ
cursor_limit = 2097152

-- a refusal of lines, as that of a cursor
abbrev pub line_refusal : LineFault → CursorRefusal
line_refusal (BadLine line) = CursorRefusal.BadLine line
line_refusal Unfinished = CursorRefusal.Unfinished
line_refusal (Trailing line) = CursorRefusal.Trailing line
line_refusal (NotOrdered line) = CursorRefusal.NotOrdered line

-- the bytes are no skeleton's text, and are refused so
abbrev pub LinesRefused : List ℕ → CursorRefusal → Type 0
LinesRefused bytes refusal = (fault : LineFault) × LineRefusal bytes fault × (refusal ≡ line_refusal fault)

-- the first line through which the cursor's events begin no listed skeleton of its size
pub record IsStrayAt (g : Schema) (u : Lists) (c : Skeleton) (line : ℕ) : Type 0 where
  pub from : 1 ≤ line
  pub to : line ≤ length (events c)
  pub stray : BeginsListed g u (size c) (take line (events c)) → ⊥
  pub first : (k : ℕ) → 1 ≤ k → k < line → BeginsListed g u (size c) (take k (events c))
