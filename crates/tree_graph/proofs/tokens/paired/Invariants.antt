use Rattle.std.proofs.Common.{◌≡◌, take}
use Rattle.tree_graph.specs.Ranks.{paired}
use Rattle.tree_graph.proofs.tokens.paired.Given as goal

-- the places so far
abbrev pub invariant-loop-position : goal.invariant-loop-position
invariant-loop-position l = l.pairs.items ≡ paired 0 (take l.position l.places)
