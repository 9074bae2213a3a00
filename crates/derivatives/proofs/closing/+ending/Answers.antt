use Rattle.std.proofs.Common.{◌∙◌, arith}
use Rattle.derivatives.proofs.Choicewise.{ending_choices}
use Rattle.derivatives.proofs.Turns.{next_within, spine_of}
use Rattle.derivatives.proofs.Joining.{joins_last, next_below, joins_next}
use Rattle.derivatives.proofs.closing.+ending.Goals as goal

pub ending_members-loop-member-init : goal.ending_members-loop-member-init
ending_members-loop-member-init t c = record {
  joined = joins_last _ ending_choices _ _ _ _ _ _ (spine_of _ _ _ _ _ c.pool.ensures c.in_ok-firsts.ensures) c.ending.ensures.kept c.in_ok-rest.ensures.within c.in_ok-rest.ensures.made;
  schema = c.ending.ensures.schema;
}

pub ending_members-ending-requires-in-Some : goal.ending_members-ending-requires-in-Some
ending_members-ending-requires-in-Some t c =
    let j = c.loop-member.invariant.joined in
    let b = next_below _ _ _ _ _ _ _ _ j c.in-Some.ensures.items in
    (omega (arith, c.decreases, b), next_within _ _ _ _ _ _ _ _ j c.in-Some.ensures.items c.requires.inside)

pub ending_members-loop-member-preserved : goal.ending_members-loop-member-preserved
ending_members-loop-member-preserved t c = record {
  joined = joins_next _ _ _ _ _ _ _ _ _ _ _ _ c.loop-member.invariant.joined c.in-Some.ensures.items c.requires.inside c.ending-in-Some.ensures.kept c.in_ok-made.ensures.made c.choice.ensures.kept c.in_ok-rest-2.ensures.within c.in_ok-rest-2.ensures.made;
  schema = c.choice.ensures.schema ∙ c.ending-in-Some.ensures.schema ∙ c.loop-member.invariant.schema;
}
