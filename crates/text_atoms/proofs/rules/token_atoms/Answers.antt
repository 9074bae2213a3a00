-- The forms, spaced.
use Rattle.text_atoms.proofs.RuleTexts.{tokens_from}
use Rattle.text_atoms.proofs.rules.token_atoms.Goals as goal

pub returns : goal.returns
returns c = tokens_from c.args.literals.now _ _ _ c.requires c.in_ok-forms.ensures c.in_ok-texts.ensures
