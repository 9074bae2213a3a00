use Rattle.std.proofs.Common.{[], ap, sym, subst, ◌∙◌}
use Rattle.grammar_laws.specs.Files.{body_pattern}
use Rattle.schema_tree.specs.declared.tree.Body.{Body}
use Rattle.schema_tree.specs.Files.{full_of}
use Rattle.schema_tree.specs.Trees.{body_of}
use Rattle.simple_form_laws.specs.Faults.{bad_values}
use Rattle.simple_form_laws.specs.Parts.{parts_of}
use Rattle.name_resolution.specs.Least.{IsLeast}
use Rattle.name_resolution.proofs.LeastPlaces.{least_least}
use Rattle.tree_faults.specs.Names.{name_faults}
use Rattle.tree_faults.proofs.Links.{bad_tree}
use Rattle.tree_faults.proofs.first.bad_value.Goals as goal

pub returns : goal.returns
returns c =
    let f = full_of c.args.full.now in
    subst (IsLeast (bad_values f))
    (sym (bad_tree f c.args.names.now c.in_body.result c.requires.files (c.in_body.ensures ∙ ap (λ (b : Body). name_faults c.args.names.now (parts_of [] (body_pattern (body_of b)))) c.body.ensures.body)))
    (least_least (bad_values f))
