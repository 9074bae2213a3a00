use Rattle.std.proofs.Common.{ℕ, ◌<◌, Contains}
use Rattle.name_universe.proofs.Counting.{name_of}
use Rattle.name_universe.proofs.fresh.first_fresh.Given as goal

-- those before this number are mentioned
abbrev pub invariant-loop-number : goal.invariant-loop-number
invariant-loop-number l = (j : ℕ) → j < l.number → Contains l.taken.keys (name_of l.ns j)
