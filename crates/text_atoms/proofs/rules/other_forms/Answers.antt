-- The part of the other forms.
use Rattle.text_atoms.proofs.RuleTexts.{others_from}
use Rattle.text_atoms.proofs.rules.other_forms.Goals as goal

pub returns : goal.returns
returns c = others_from c.args.literals.now _ _ _ c.new-texts.ensures.empty c.members.ensures c.in_ok-gather.ensures
