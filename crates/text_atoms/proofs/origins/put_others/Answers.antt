-- The rules behind the first two.
use Rattle.text_atoms.proofs.FreshRules.{five_rules}
use Rattle.text_atoms.proofs.origins.put_others.Goals as goal

pub returns : goal.returns
returns c = five_rules c.args.literals.now _ _ _ _ _ _ _ c.in_ok-other_forms.ensures c.in_ok-samples.ensures c.in_ok-fresh_text.ensures c.in_ok-put_all.ensures c.in_ok-put_all-2.ensures c.in_ok-put.ensures
