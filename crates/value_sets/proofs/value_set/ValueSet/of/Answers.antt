use Rattle.std.proofs.Common.{sym, ◌∙◌}
use Rattle.value_sets.proofs.Joining.{none_added, next_added, last_added}
use Rattle.value_sets.proofs.value_set.ValueSet.of.Goals as goal

pub loop-member-init : goal.loop-member-init
loop-member-init c = none_added _ _ _ c.requires c.new-set.ensures

pub loop-member-preserved : goal.loop-member-preserved
loop-member-preserved c =
    let added = c.if-not-branch.false in
    next_added _ _ _ _ _ _ _ _ c.loop-member.invariant c.node.ensures c.in-Choice.is (sym c.in_ok-add.ensures.leaf ∙ added) (c.in_ok-add.ensures.adds added)

pub returns-then-branch-clause-takes : goal.returns-then-branch-clause-takes
returns-then-branch-clause-takes c =
    let added = c.if-branch.true in
    last_added _ _ _ _ _ c.loop-member.invariant (sym c.in_ok-add-2.ensures.leaf ∙ added) (c.in_ok-add-2.ensures.adds added)
