-- The map begins with no rule.
use Rattle.text_atoms.proofs.FreshRules.{empty_rules}
use Rattle.text_atoms.proofs.origins.origins.Goals as goal

pub returns-clause-rules : goal.returns-clause-rules
returns-clause-rules c = (c.in_ok-put_rules.ensures (empty_rules c.args.literals.now c.args.extra.now c.new-atoms.result c.new-atoms.ensures.empty)).rules

pub returns-clause-fresh : goal.returns-clause-fresh
returns-clause-fresh c = (c.in_ok-put_rules.ensures (empty_rules c.args.literals.now c.args.extra.now c.new-atoms.result c.new-atoms.ensures.empty)).fresh
