use Rattle.std.proofs.Common.{◌≡◌, ◌<◌, refl, subst, arith}
use Rattle.rng_model.specs.Patterns.{not_allowed}
use Rattle.pattern_intern.specs.Stored.{Stored, count, tree_at}
use Rattle.derivatives.proofs.Entering.{entered_none, entered_more}
use Rattle.derivatives.proofs.opening.entered.Goals as goal

pub loop-next-init : goal.loop-next-init
loop-next-init c = record {
  next = omega arith;
  entered = entered_none _ _ _ _
      (subst (λ (s : Stored). c.not_allowed-made.result.0 < count s) c.pool.ensures c.not_allowed-made.ensures.within)
      (subst (λ (s : Stored). tree_at s c.not_allowed-made.result.0 ≡ not_allowed) c.pool.ensures c.not_allowed-made.ensures.tree);
}

pub loop-next-preserved : goal.loop-next-preserved
loop-next-preserved c =
    let l = c.loop-next.invariant.next in let t = c.loop-next-test.true in
    record {
      next = omega arith;
      entered = entered_more _ _ _ _ _ _ _ _ _ _ _ c.requires.within (omega arith) (omega arith) refl c.loop-next.invariant.entered
          c.entered_before.ensures.kept c.entered_before.ensures.schema c.in_ok-made.ensures.within c.in_ok-made.ensures.made;
    }
