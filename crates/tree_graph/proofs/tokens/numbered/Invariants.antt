use Rattle.std.proofs.Common.{◌≡◌, ℕ, ◌<◌, length, Some}
use Rattle.std.specs.Prelude.{slice_get}
use Rattle.tree_graph.specs.Numbers.{number_at}
use Rattle.tree_graph.proofs.tokens.numbered.Given as goal

-- the positions of the numbers so far have theirs
abbrev pub invariant-loop-number : goal.invariant-loop-number
invariant-loop-number l =
    (length l.numbers.items ≡ length l.places) × ((k : ℕ) → k < length l.places → number_at l.places k < l.number → slice_get l.numbers.items k ≡ Some (number_at l.places k))
