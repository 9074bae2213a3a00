use Rattle.list_command.proofs.schema.read_schema.Goals as goal

pub returns-clause-accepted : goal.returns-clause-accepted
returns-clause-accepted c = c.form_of.ensures.accepted c.args.bytes.now c.in_ok-full.ensures.tree

pub returns-clause-refused : goal.returns-clause-refused
returns-clause-refused c = c.form_of.ensures.refused c.args.bytes.now c.in_ok-full.ensures.tree
