use Rattle.std.proofs.Common.{◌∙◌, sym, ap}
use Rattle.rng_model.specs.Constructors.{of_members}
use Rattle.pattern_intern.proofs.Merging.{if_ok_to, ordered}
use Rattle.pattern_intern.proofs.pool.Pool.merge.Goals as goal

pub returns-clause-made : goal.returns-clause-made
returns-clause-made c =
    if_ok_to _ c.join_all.result (ap of_members (sym c.in_ok-taken.ensures.list) ∙ (ordered _ _ (c.all_ordered.ensures _ c.requires.left) (c.all_ordered.ensures _ c.requires.right)).whole) c.join_all.ensures.made
