-- The first two rules.
use Rattle.text_atoms.proofs.FreshRules.{two_rules}
use Rattle.text_atoms.proofs.origins.put_literals.Goals as goal

pub returns : goal.returns
returns c = two_rules c.args.literals.now _ _ _ _ _ c.in_ok-strings.ensures c.in_ok-tokens.ensures c.in_ok-put_all.ensures c.in_ok-put_all-2.ensures
