-- Rule by rule.
use Rattle.text_atoms.proofs.FreshRules.{six_rules}
use Rattle.text_atoms.proofs.origins.put_rules.Goals as goal

pub returns : goal.returns
returns c = λ none. six_rules c.args.literals.now c.args.extra.now _ _ (c.in_ok-put_others.ensures c.args.extra.now (c.in_ok-put_literals.ensures c.args.extra.now none)) (rw c.as_slice.ensures at c.in_ok-put_extra.ensures)
