use Rattle.schema_tree.specs.Files.{full_of}
use Rattle.simplify.proofs.simplify.Goals as goal

pub returns-in-Some-clause-refused : goal.returns-in-Some-clause-refused
returns-in-Some-clause-refused c = c.of_tree.ensures (full_of c.args.full.now) (c.in_ok-fault.ensures.found c.in-Some.fault c.in-Some.is)

pub returns-in-Some-bad_value-clause-refused : goal.returns-in-Some-bad_value-clause-refused
returns-in-Some-bad_value-clause-refused c =
    c.later_faults.ensures.value (full_of c.args.full.now) c.in-Some-bad_value.at (c.in_ok-fault.ensures.none c.in_default.is)
    c.in_ok-schema.ensures.formed.loops c.in_ok-schema.ensures.formed.shallow c.in-Some-bad_value.ensures
