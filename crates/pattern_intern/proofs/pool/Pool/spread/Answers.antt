use Rattle.std.proofs.Common.{◌≡◌, List, subst, get_or}
use Rattle.rng_model.specs.Patterns.{not_allowed}
use Rattle.pattern_intern.specs.Ordered.{IsOrdered, IsSplit}
use Rattle.pattern_intern.specs.Stored.{tree_at}
use Rattle.pattern_intern.specs.declared.id.PatternId.{PatternId}
use Rattle.pattern_intern.proofs.Collected.{spread_none, spread_some}
use Rattle.pattern_intern.proofs.pool.Pool.spread.Goals as goal

pub returns-in_ok-insert-2 : goal.returns-in_ok-insert-2
returns-in_ok-insert-2 c = λ patterns g.
    spread_some c.args.self.now patterns c.args.next _ c.in-Some.first c.in-Some.others c.args.found.now.keys _ _ c.requires.next c.in-Some.ensures.first c.in-Some.ensures.others
    (subst (λ (l : List PatternId). IsOrdered (tree_at c.args.self.now (get_or l c.args.next (record { 0 = 0 })).0)) c.as_slice.ensures.keys c.in-Some.ensures.ordered)
    (subst (λ (l : List PatternId). IsSplit (tree_at c.args.self.now (get_or l c.args.next (record { 0 = 0 })).0) (tree_at c.args.self.now c.in-Some.first.0) (tree_at c.args.self.now c.in-Some.others.0)) c.as_slice.ensures.keys c.in-Some.ensures.list) c.in_ok-insert.ensures.keys c.in_ok-insert-2.ensures.keys c.in_ok-insert-2.ensures.unique g

pub returns-in_default : goal.returns-in_default
returns-in_default c = λ patterns g. spread_none c.args.self.now patterns c.args.next _ c.args.found.now.keys c.requires.next (subst (λ (l : List PatternId). tree_at c.args.self.now (get_or l c.args.next (record { 0 = 0 })).0 ≡ not_allowed) c.as_slice.ensures.keys c.in_default.ensures.none) g
