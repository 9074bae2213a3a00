-- Each text of the table whose kind is marked.
use Rattle.text_atoms.proofs.RuleTexts.{table_none, table_more, table_all}
use Rattle.text_atoms.proofs.rules.of_marked_kinds.Goals as goal

pub loop-sample-init : goal.loop-sample-init
loop-sample-init c = table_none c.args.literals.now.kinds c.args.table.now _ c.new-texts.ensures.empty

pub loop-sample-preserved : goal.loop-sample-preserved
loop-sample-preserved c = table_more c.args.literals.now.kinds c.args.table.now c.loop-sample.sample-index _ _ _ c.loop-sample-test.true c.loop-sample.invariant c.in_ok-add_if_marked.ensures

pub returns : goal.returns
returns c = table_all c.args.literals.now.kinds c.args.table.now c.loop-sample.sample-index _ c.loop-sample-test.false c.loop-sample.invariant
