use Rattle.std.proofs.Common.{refl, ◌∙◌, sym, subst, arith}
use Rattle.rng_model.specs.Derivatives.{text_step}
use Rattle.derivatives.specs.Kept.{AreRight}
use Rattle.derivatives.proofs.Choicewise.{text_choices}
use Rattle.derivatives.proofs.Turns.{next_within, right_made, spine_of}
use Rattle.derivatives.proofs.Joining.{joins_last, next_below, joins_next}
use Rattle.derivatives.proofs.KeepingTexts.{texts_extend, texts_put}
use Rattle.derivatives.proofs.text.+text.Goals as goal

pub text_members-loop-member-init : goal.text_members-loop-member-init
text_members-loop-member-init t c = record {
  joined = joins_last _ (text_choices c.args.text.now) _ _ _ _ _ _ (spine_of _ _ _ _ _ c.pool.ensures c.in_ok-firsts.ensures) c.text_step.ensures.kept c.in_ok-rest.ensures.within c.in_ok-rest.ensures.made;
  right = c.text_step.ensures.right;
  schema = c.text_step.ensures.schema;
}

pub text_members-text_step-requires-in-Some : goal.text_members-text_step-requires-in-Some
text_members-text_step-requires-in-Some t c =
    let j = c.loop-member.invariant.joined in
    let b = next_below _ _ _ _ _ _ _ _ j c.in-Some.ensures.items in
    (omega (arith, c.decreases, b), (next_within _ _ _ _ _ _ _ _ j c.in-Some.ensures.items c.requires.inside, c.loop-member.invariant.right))

pub text_members-loop-member-preserved : goal.text_members-loop-member-preserved
text_members-loop-member-preserved t c = record {
  joined = joins_next _ _ _ _ _ _ _ _ _ _ _ _ c.loop-member.invariant.joined c.in-Some.ensures.items c.requires.inside c.text_step-in-Some.ensures.kept c.in_ok-made.ensures.made c.choice.ensures.kept c.in_ok-rest-2.ensures.within c.in_ok-rest-2.ensures.made;
  right = texts_extend _ _ _ _ c.text_step-in-Some.ensures.right c.choice.ensures.kept;
  schema = c.choice.ensures.schema ∙ c.text_step-in-Some.ensures.schema ∙ c.loop-member.invariant.schema;
}

pub text_of-returns-in_ok-left-in-OneOrMore-clause-right : goal.text_of-returns-in_ok-left-in-OneOrMore-clause-right
text_of-returns-in_ok-left-in-OneOrMore-clause-right t c = texts_extend _ _ _ _ c.text_step-in-OneOrMore.ensures.right c.repeated.ensures.kept

pub text_of-returns-in_ok-back-in-Group-clause-right : goal.text_of-returns-in_ok-back-in-Group-clause-right
text_of-returns-in_ok-back-in-Group-clause-right t c = texts_extend _ _ _ _ c.text_passed.ensures.right c.passed.ensures.kept

pub text_of-returns-in_ok-right-in-Interleave-clause-right : goal.text_of-returns-in_ok-right-in-Interleave-clause-right
text_of-returns-in_ok-right-in-Interleave-clause-right t c = texts_extend _ _ _ _ c.text_step-in-Interleave-2.ensures.right c.interleaved.ensures.kept

pub text_of-returns-in_ok-left-in-After-clause-right : goal.text_of-returns-in_ok-left-in-After-clause-right
text_of-returns-in_ok-left-in-After-clause-right t c = texts_extend _ _ _ _ c.text_step-in-After.ensures.right c.after.ensures.kept

pub text_step-returns-in-Some-get-clause-within : goal.text_step-returns-in-Some-get-clause-within
text_step-returns-in-Some-get-clause-within t c = (c.requires.right.results.each _ _ (sym c.get.ensures ∙ c.in-Some-get.is)).within

pub text_step-returns-clause-right : goal.text_step-returns-clause-right
text_step-returns-clause-right t c =
    texts_put _ _ _ _ _ _ c.text_of.ensures.right c.in_ok-put.ensures.kept refl
    (right_made _ _ _ _ _ c.requires.inside c.text_of.ensures.kept c.in_ok-made.ensures.within c.in_ok-made.ensures.made)

pub text_step-returns-in_err-put-clause-right : goal.text_step-returns-in_err-put-clause-right
text_step-returns-in_err-put-clause-right t c = record {
  results = subst (λ kept. AreRight (text_step c.args.text.now) c.text_of.new.schema.pool kept) (sym c.in_err-put.ensures.unchanged) c.text_of.ensures.right.results;
  sets = c.text_of.ensures.right.sets;
}
