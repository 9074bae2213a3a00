use Rattle.std.proofs.Common.{subst}
use Rattle.std.specs.List.Sorted.{IsPermutation}
use Rattle.tree_graph.proofs.Ranking.{sorted_are_ranks}
use Rattle.tree_graph.proofs.tokens.ranked.Goals as goal

pub returns : goal.returns
returns c = sorted_are_ranks c.args.places.now c.sort.new.self.items (subst (λ l. IsPermutation l c.sort.new.self.items) c.in_ok-pairs.ensures c.sort.ensures.permutation) c.in_ok-sort.ensures.sorted
