use Rattle.std.proofs.Common.{◌∙◌, sym, subst, arith}
use Rattle.rng_model.specs.Derivatives.{attribute_step}
use Rattle.derivatives.specs.Kept.{AreRight}
use Rattle.derivatives.proofs.Choicewise.{attribute_choices}
use Rattle.derivatives.proofs.Turns.{next_within, right_made, spine_of}
use Rattle.derivatives.proofs.Joining.{joins_last, next_below, joins_next}
use Rattle.derivatives.proofs.Keeping.{right_extends, right_put}
use Rattle.derivatives.proofs.KeepingTexts.{texts_extend}
use Rattle.derivatives.proofs.attribute.+attribute.Goals as goal

pub attribute_members-loop-member-init : goal.attribute_members-loop-member-init
attribute_members-loop-member-init t c = record {
  joined = joins_last _ (attribute_choices c.args.name.now c.args.text.now) _ _ _ _ _ _ (spine_of _ _ _ _ _ c.pool.ensures c.in_ok-firsts.ensures) c.attribute_step.ensures.kept c.in_ok-rest.ensures.within c.in_ok-rest.ensures.made;
  right = c.attribute_step.ensures.right;
  texts = c.attribute_step.ensures.texts;
  schema = c.attribute_step.ensures.schema;
}

pub attribute_members-attribute_step-requires-in-Some : goal.attribute_members-attribute_step-requires-in-Some
attribute_members-attribute_step-requires-in-Some t c =
    let j = c.loop-member.invariant.joined in
    let b = next_below _ _ _ _ _ _ _ _ j c.in-Some.ensures.items in
    (omega (arith, c.decreases, b), (next_within _ _ _ _ _ _ _ _ j c.in-Some.ensures.items c.requires.inside, (c.loop-member.invariant.right, c.loop-member.invariant.texts)))

pub attribute_members-loop-member-preserved : goal.attribute_members-loop-member-preserved
attribute_members-loop-member-preserved t c = record {
  joined = joins_next _ _ _ _ _ _ _ _ _ _ _ _ c.loop-member.invariant.joined c.in-Some.ensures.items c.requires.inside c.attribute_step-in-Some.ensures.kept c.in_ok-made.ensures.made c.choice.ensures.kept c.in_ok-rest-2.ensures.within c.in_ok-rest-2.ensures.made;
  right = right_extends _ _ _ _ c.attribute_step-in-Some.ensures.right c.choice.ensures.kept;
  texts = texts_extend _ _ _ _ c.attribute_step-in-Some.ensures.texts c.choice.ensures.kept;
  schema = c.choice.ensures.schema ∙ c.attribute_step-in-Some.ensures.schema ∙ c.loop-member.invariant.schema;
}

pub attribute_of-returns-in_ok-left-in-OneOrMore-clause-right : goal.attribute_of-returns-in_ok-left-in-OneOrMore-clause-right
attribute_of-returns-in_ok-left-in-OneOrMore-clause-right t c = right_extends _ _ _ _ c.attribute_step.ensures.right c.repeated.ensures.kept

pub attribute_of-returns-in_ok-left-in-OneOrMore-clause-texts : goal.attribute_of-returns-in_ok-left-in-OneOrMore-clause-texts
attribute_of-returns-in_ok-left-in-OneOrMore-clause-texts t c = texts_extend _ _ _ _ c.attribute_step.ensures.texts c.repeated.ensures.kept

pub attribute_of-returns-in_ok-right-in-Group-clause-right : goal.attribute_of-returns-in_ok-right-in-Group-clause-right
attribute_of-returns-in_ok-right-in-Group-clause-right t c = right_extends _ _ _ _ c.attribute_step-in-Group-2.ensures.right c.grouped.ensures.kept

pub attribute_of-returns-in_ok-right-in-Group-clause-texts : goal.attribute_of-returns-in_ok-right-in-Group-clause-texts
attribute_of-returns-in_ok-right-in-Group-clause-texts t c = texts_extend _ _ _ _ c.attribute_step-in-Group-2.ensures.texts c.grouped.ensures.kept

pub attribute_of-returns-in_ok-right-in-Interleave-clause-right : goal.attribute_of-returns-in_ok-right-in-Interleave-clause-right
attribute_of-returns-in_ok-right-in-Interleave-clause-right t c = right_extends _ _ _ _ c.attribute_step-in-Interleave-2.ensures.right c.interleaved.ensures.kept

pub attribute_of-returns-in_ok-right-in-Interleave-clause-texts : goal.attribute_of-returns-in_ok-right-in-Interleave-clause-texts
attribute_of-returns-in_ok-right-in-Interleave-clause-texts t c = texts_extend _ _ _ _ c.attribute_step-in-Interleave-2.ensures.texts c.interleaved.ensures.kept

pub attribute_of-returns-in_ok-left-in-After-clause-right : goal.attribute_of-returns-in_ok-left-in-After-clause-right
attribute_of-returns-in_ok-left-in-After-clause-right t c = right_extends _ _ _ _ c.attribute_step-in-After.ensures.right c.after.ensures.kept

pub attribute_of-returns-in_ok-left-in-After-clause-texts : goal.attribute_of-returns-in_ok-left-in-After-clause-texts
attribute_of-returns-in_ok-left-in-After-clause-texts t c = texts_extend _ _ _ _ c.attribute_step-in-After.ensures.texts c.after.ensures.kept

pub attribute_of-returns-in-Attribute-clause-right : goal.attribute_of-returns-in-Attribute-clause-right
attribute_of-returns-in-Attribute-clause-right t c = right_extends _ _ _ _ c.requires.right c.after_attribute.ensures.kept

pub attribute_step-returns-in-Some-get-clause-within : goal.attribute_step-returns-in-Some-get-clause-within
attribute_step-returns-in-Some-get-clause-within t c = (c.requires.right.each _ _ (sym c.get.ensures ∙ c.in-Some-get.is)).within

pub attribute_step-returns-clause-right : goal.attribute_step-returns-clause-right
attribute_step-returns-clause-right t c = right_put _ _ _ _ _ _ c.attribute_of.ensures.right c.in_ok-put.ensures.kept (right_made _ _ _ _ _ c.requires.inside c.attribute_of.ensures.kept c.in_ok-made.ensures.within c.in_ok-made.ensures.made)

pub attribute_step-returns-in_err-put-clause-right : goal.attribute_step-returns-in_err-put-clause-right
attribute_step-returns-in_err-put-clause-right t c = subst (λ kept. AreRight (attribute_step c.args.name.now c.args.text.now) c.attribute_of.new.schema.pool kept) (sym c.in_err-put.ensures.unchanged) c.attribute_of.ensures.right
