-- The texts and the normal forms of all literals are taken.
use Rattle.text_atoms.proofs.RuleTexts.{taken_from, fresh_from}
use Rattle.text_atoms.proofs.rules.fresh_text.Goals as goal

pub returns : goal.returns
returns c =
    fresh_from c.args.literals.now _ _ (taken_from c.args.literals.now _ _ _ _ c.new-taken.ensures.empty c.members-members.ensures c.in_ok-gather.ensures c.in_ok-gather-2.ensures) c.in_ok-text.ensures
