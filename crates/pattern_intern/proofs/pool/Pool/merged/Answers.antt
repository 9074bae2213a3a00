use Rattle.pattern_intern.proofs.Least.{merged_left, merged_right, nothing_else}
use Rattle.pattern_intern.proofs.pool.Pool.merged.Goals.{in-None, in-Some-split}
use Rattle.pattern_intern.proofs.pool.Pool.merged.Goals as goal

pub returns : goal.returns
returns c =
    let o = c.all_ordered.ensures in
    let m = c.loop-first.invariant in
    elim c.match-split.branch [
      | in-None w ↦ rw w.rest-is (merged_left _ _ _ _ _ _ (o _ c.requires.left) (o _ c.requires.right) m (o _ m.right_in) w.in-None.ensures.none)
      | in-Some-split w ↦ rw w.rest-is (merged_right _ _ _ _ _ _ (o _ c.requires.left) (o _ c.requires.right) m (o _ m.left_in) (nothing_else _ _ _ _ w.in-Some-split.ensures.list c.in_default.ensures.none))
    ]
