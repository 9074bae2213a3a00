use Rattle.schema_tree.specs.Files.{full_of}
use Rattle.tree_faults.proofs.FirstFaults.{refusal_of, none_of}
use Rattle.tree_faults.proofs.first.first_fault.Goals as goal

pub returns-clause-found : goal.returns-clause-found
returns-clause-found c = refusal_of (full_of c.args.full.now) c.in_ok-found.found c.first.result c.in_ok-found.ensures c.first.ensures

pub returns-clause-none : goal.returns-clause-none
returns-clause-none c = none_of (full_of c.args.full.now) c.in_ok-found.found c.first.result c.in_ok-found.ensures c.first.ensures
