use Rattle.std.proofs.Common.{◌≡◌, ◌<◌, subst}
use Rattle.indexmap.proofs.MapLemmas.{OnOk-map}
use Rattle.rng_model.specs.Patterns.{empty}
use Rattle.pattern_intern.specs.Stored.{Stored, count, tree_at}
use Rattle.derivatives.proofs.Gathered.{gathers_opened}
use Rattle.derivatives.proofs.gathering.add_opened.Goals as goal

pub returns : goal.returns
returns c =
    OnOk-map _ _ _ (gathers_opened _ _ _ _ _ c.requires
    (subst (λ (s : Stored). c.empty-rest.result.0 < count s) c.pool.ensures c.empty-rest.ensures.within)
    (subst (λ (s : Stored). tree_at s c.empty-rest.result.0 ≡ empty) c.pool.ensures c.empty-rest.ensures.tree)) c.add.ensures
