use Rattle.schema_tree.specs.Files.{full_of}
use Rattle.schema_tree.proofs.Leasts.{least_reference}
use Rattle.schema_tree.proofs.features.first_reference.Goals as goal

pub returns-in-Some : goal.returns-in-Some
returns-in-Some c = least_reference (full_of c.args.full.now) c.in-Some.field-0-0 c.in-Some.at (rw c.in-Some.is at c.least.ensures)
