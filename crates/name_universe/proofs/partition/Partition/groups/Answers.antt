-- The next position is in the group of its block.
use Rattle.std.proofs.Common.{arith, List, ℕ, ◌≡◌, subst}
use Rattle.rng_model.specs.Alike.{AreGroups}
use Rattle.name_universe.proofs.Renumbering.{none_numbered, group_known, number_more, all_numbered}
use Rattle.name_universe.proofs.partition.Partition.groups.Goals as goal

pub loop-block-init : goal.loop-block-init
loop-block-init c = none_numbered _ _ c.new-groups.ensures c.new-seen.ensures.empty

pub push-requires : goal.push-requires
push-requires c =
    group_known c.as_slice-block-items.result.now c.loop-block.block-index 0 c.loop-block.groups c.loop-block.seen.keys c.in_ok-group.group _ c.loop-block-test.true c.loop-block.invariant
    c.in_ok-group.ensures.keys c.in_ok-group.ensures.index c.in_ok-group.ensures.stored

pub loop-block-preserved : goal.loop-block-preserved
loop-block-preserved c =
    number_more c.as_slice-block-items.result.now c.loop-block.block-index 0 c.loop-block.groups c.loop-block.seen.keys c.in_ok-group.group _ c.loop-block-test.true c.loop-block.invariant
    c.in_ok-group.ensures.keys c.in_ok-group.ensures.index c.in_ok-group.ensures.stored _ c.in_ok-push.ensures.ok

pub returns : goal.returns
returns c =
    subst (λ (xs : List ℕ). AreGroups ℕ (λ a b. a ≡ b) xs c.loop-block.groups) c.as_slice-block-items.ensures.value
    (all_numbered c.as_slice-block-items.result.now c.loop-block.block-index c.loop-block.groups c.loop-block.seen.keys (omega (arith, c.loop-block-test.false)) c.loop-block.invariant)
