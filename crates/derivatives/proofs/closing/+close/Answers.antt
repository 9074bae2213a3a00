use Rattle.std.proofs.Common.{◌∙◌, sym, arith}
use Rattle.derivatives.proofs.Choicewise.{close_choices}
use Rattle.derivatives.proofs.Turns.{next_within, right_made, spine_of}
use Rattle.derivatives.proofs.Joining.{joins_last, next_below, joins_next}
use Rattle.derivatives.proofs.Keeping.{right_extends, right_put}
use Rattle.derivatives.proofs.closing.+close.Goals as goal

pub close_members-loop-member-init : goal.close_members-loop-member-init
close_members-loop-member-init t c = record {
  joined = joins_last _ (close_choices) _ _ _ _ _ _ (spine_of _ _ _ _ _ c.pool.ensures c.in_ok-firsts.ensures) c.close.ensures.kept c.in_ok-rest.ensures.within c.in_ok-rest.ensures.made;
  right = c.close.ensures.right;
  schema = c.close.ensures.schema;
}

pub close_members-close-requires-in-Some : goal.close_members-close-requires-in-Some
close_members-close-requires-in-Some t c =
    let j = c.loop-member.invariant.joined in
    let b = next_below _ _ _ _ _ _ _ _ j c.in-Some.ensures.items in
    (omega (arith, c.decreases, b), (next_within _ _ _ _ _ _ _ _ j c.in-Some.ensures.items c.requires.inside, c.loop-member.invariant.right))

pub close_members-loop-member-preserved : goal.close_members-loop-member-preserved
close_members-loop-member-preserved t c = record {
  joined = joins_next _ _ _ _ _ _ _ _ _ _ _ _ c.loop-member.invariant.joined c.in-Some.ensures.items c.requires.inside c.close-in-Some.ensures.kept c.in_ok-made.ensures.made c.choice.ensures.kept c.in_ok-rest-2.ensures.within c.in_ok-rest-2.ensures.made;
  right = right_extends _ _ _ _ c.close-in-Some.ensures.right c.choice.ensures.kept;
  schema = c.choice.ensures.schema ∙ c.close-in-Some.ensures.schema ∙ c.loop-member.invariant.schema;
}

pub close_of-returns-in_ok-part-in-OneOrMore-clause-right : goal.close_of-returns-in_ok-part-in-OneOrMore-clause-right
close_of-returns-in_ok-part-in-OneOrMore-clause-right t c = right_extends _ _ _ _ c.close.ensures.right c.one_or_more.ensures.kept

pub close_of-returns-in_ok-right-in-Group-clause-right : goal.close_of-returns-in_ok-right-in-Group-clause-right
close_of-returns-in_ok-right-in-Group-clause-right t c = right_extends _ _ _ _ c.close-in-Group-2.ensures.right c.group.ensures.kept

pub close_of-returns-in_ok-right-in-Interleave-clause-right : goal.close_of-returns-in_ok-right-in-Interleave-clause-right
close_of-returns-in_ok-right-in-Interleave-clause-right t c = right_extends _ _ _ _ c.close-in-Interleave-2.ensures.right c.interleave.ensures.kept

pub close_of-returns-in_ok-left-in-After-clause-right : goal.close_of-returns-in_ok-left-in-After-clause-right
close_of-returns-in_ok-left-in-After-clause-right t c = right_extends _ _ _ _ c.close-in-After.ensures.right c.after.ensures.kept

pub close-returns-in-Some-get-clause-within : goal.close-returns-in-Some-get-clause-within
close-returns-in-Some-get-clause-within t c = (c.requires.right.each _ _ (sym c.get.ensures ∙ c.in-Some-get.is)).within

pub close-returns-clause-right : goal.close-returns-clause-right
close-returns-clause-right t c = right_put _ _ _ _ _ _ c.close_of.ensures.right c.in_ok-put.ensures.kept (right_made _ _ _ _ _ c.requires.inside c.close_of.ensures.kept c.in_ok-made.ensures.within c.in_ok-made.ensures.made)
