use Rattle.pattern_intern.proofs.Growing.{extends-trans}
use Rattle.pattern_intern.proofs.Least.{is_member, is_below, joined}
use Rattle.pattern_intern.proofs.pool.Pool.join_all.Goals as goal

pub join-requires-clause-member : goal.join-requires-clause-member
join-requires-clause-member c = is_member _ _ _ _ _ _ _ c.loop-first.invariant c.requires.members c.in-Some.ensures.items

pub join-requires-clause-below : goal.join-requires-clause-below
join-requires-clause-below c = is_below _ _ _ _ _ _ _ c.loop-first.invariant c.requires.members c.in-Some.ensures.items

pub loop-first-preserved : goal.loop-first-preserved
loop-first-preserved c =
    joined _ _ _ _ _ _ _ c.loop-first.invariant c.requires.members c.in-Some.ensures.items
    _ _ c.in_ok-rest.ensures.within c.in_ok-rest.ensures.made (extends-trans _ _ _ c.loop-first.invariant.kept c.join.ensures.kept) c.join.ensures.refs c.join.ensures.same
