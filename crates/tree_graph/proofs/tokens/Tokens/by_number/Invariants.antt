use Rattle.std.proofs.Common.{◌≡◌, ℕ, map, take}
use Rattle.std.specs.Prelude.{slice_index}
use Rattle.tree_graph.proofs.tokens.Tokens.by_number.Given as goal

-- what is known of the numbers so far
abbrev pub invariant-loop-position : goal.invariant-loop-position
invariant-loop-position l = l.ordered.items ≡ map (λ (e : ℕ × ℕ). slice_index l.elements.items e.1) (take l.position-index l.position-items)
