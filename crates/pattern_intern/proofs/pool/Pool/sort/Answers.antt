use Rattle.std.proofs.Common.{rules, is_lt}
use Rattle.std.proofs.lemmas.Result.{on_ok_weaker}
use Rattle.std.proofs.lemmas.List.MinMax.{ranks_by}
use Rattle.std.proofs.lemmas.Fn.{always_returns_same}
use Rattle.rng_model.specs.Patterns.{pattern_cmp}
use Rattle.rng_model.proofs.Orders.{pattern_order}
use Rattle.pattern_intern.specs.Stored.{tree_at}
use Rattle.pattern_intern.specs.declared.id.PatternId.{PatternId}
use Rattle.pattern_intern.proofs.pool.Pool.sort.Goals as goal

pub returns-clause-sorted : goal.returns-clause-sorted
returns-clause-sorted c =
    on_ok_weaker c.sort_by.result
    (λ sorted. sorted (λ (a b : PatternId). is_lt (pattern_cmp (tree_at c.args.self.now a.0) (tree_at c.args.self.now b.0))) (ranks_by pattern_order (λ (id : PatternId). tree_at c.args.self.now id.0)) (always_returns_same _ _ _ (λ a r f k. search rules)))
    c.sort_by.ensures.sorted
