-- Pieces that lie one behind the other in one list of bytes: this project's own.
use Rattle.std.specs.Prelude.{ℕ, ◌-◌, ◌≤◌, List, drop, length, take}

-- the bytes from a start up to an end
abbrev pub piece_at : List ℕ → ℕ × ℕ → List ℕ
piece_at bytes range = take (range.1 - range.0) (drop range.0 bytes)

-- a start and an end within the bytes
abbrev pub IsRangeOf : List ℕ → ℕ × ℕ → Type 0
IsRangeOf bytes range = (range.0 ≤ range.1) × (range.1 ≤ length bytes)
