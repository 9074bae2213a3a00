use Rattle.std.proofs.Common.{◌∙◌}
use Rattle.schema_tree.specs.Trees.{class_of}
use Rattle.simple_form_laws.specs.ClassForms.{class_parts}
use Rattle.name_resolution.proofs.ClassParts.{nothing_around}
use Rattle.name_resolution.proofs.namespaces.Namespaces.class_faults.Goals as goal

pub returns-clause-constraint : goal.returns-clause-constraint
returns-clause-constraint c = c.walk.ensures.constraint ∙ nothing_around (class_parts (class_of c.args.class.now))
