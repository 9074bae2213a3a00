-- Whether the kind is marked.
use Rattle.std.proofs.Common.{◌≡◌, ◌∙◌, refl, true, false}
use Rattle.text_atoms.proofs.RuleTexts.{unmarked, marked}
use Rattle.text_atoms.proofs.rules.add_if_marked.Goals as goal

pub returns-then-not-has_kind : goal.returns-then-not-has_kind
returns-then-not-has_kind c = unmarked _ _ _ _ (λ h. (let e : false ≡ true = c.if-not-has_kind.ensures.1 h in cc))

pub returns : goal.returns
returns c = marked _ _ _ _ _ _ (c.if-not-has_kind.ensures.0 refl) (c.from_string.ensures ∙ c.in_ok-string.ensures.ok) c.in_ok-add.ensures
