-- The part of the token forms, and the empty text.
use Rattle.std.proofs.Common.{◌∙◌}
use Rattle.text_atoms.proofs.RuleTexts.{forms_without, forms_with}
use Rattle.text_atoms.proofs.rules.token_forms.Goals as goal

pub returns-then-not-has_empty : goal.returns-then-not-has_empty
returns-then-not-has_empty c = forms_without c.args.literals.now _ _ _ c.new-texts.ensures.empty c.members.ensures c.if-not-has_empty.ensures c.in_ok-gather.ensures

pub returns : goal.returns
returns c = forms_with c.args.literals.now _ _ _ _ _ c.new-texts.ensures.empty c.members.ensures c.if-not-has_empty.ensures (c.from_string.ensures ∙ c.new.ensures.bytes) c.in_ok-gather.ensures c.in_ok-add.ensures
