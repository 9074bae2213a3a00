-- The part of the strings.
use Rattle.text_atoms.proofs.RuleTexts.{strings_from}
use Rattle.text_atoms.proofs.rules.string_literals.Goals as goal

pub returns : goal.returns
returns c = strings_from c.args.literals.now _ _ _ c.new-texts.ensures.empty c.members.ensures c.in_ok-gather.ensures
