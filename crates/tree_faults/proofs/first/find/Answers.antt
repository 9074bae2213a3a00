use Rattle.std.proofs.Common.{[], ap, ◌∙◌}
use Rattle.grammar_laws.specs.Files.{body_pattern}
use Rattle.schema_tree.specs.declared.tree.Body.{Body}
use Rattle.schema_tree.specs.Files.{full_of}
use Rattle.schema_tree.specs.Trees.{body_of}
use Rattle.simple_form_laws.specs.Parts.{parts_of}
use Rattle.name_resolution.specs.Least.{least}
use Rattle.name_resolution.specs.Places.{bound_reserved, bound_twice}
use Rattle.tree_faults.specs.Grammars.{grammar_faults}
use Rattle.tree_faults.specs.Names.{name_faults}
use Rattle.tree_faults.proofs.Links.{unbound_tree, constraint_tree, xmlns_tree, lacks_tree, undefined_tree, outside_tree, mixed_tree, twice_tree}
use Rattle.tree_faults.proofs.first.find.Goals as goal

pub returns : goal.returns
returns c =
    let f = full_of c.args.full.now in
    let fs = c.args.names.now in
    let d = c.in_body.result in
    let g = c.in_ok-in_body.field-0 in
    let names = c.in_body.ensures ∙ ap (λ (b : Body). name_faults fs (parts_of [] (body_pattern (body_of b)))) c.body.ensures.body in
    let grammars = c.in_ok-in_body.ensures ∙ ap (λ (b : Body). grammar_faults (parts_of [] (body_pattern (body_of b)))) c.body-2.ensures.body in
    record {
      unbound = unbound_tree f fs d c.requires names;
      twice = c.in_ok-prefix_twice.ensures ∙ ap (λ gs. least (bound_twice gs)) c.requires;
      reserved = c.reserved_prefix.ensures ∙ ap (λ gs. least (bound_reserved gs)) c.requires;
      constraint = constraint_tree f fs d c.requires names;
      xmlns = xmlns_tree f fs d c.requires names;
      lacks_start = lacks_tree f g grammars;
      undefined = undefined_tree f g grammars;
      outside = outside_tree f g grammars;
      mixed = mixed_tree f g grammars;
      defined = twice_tree f g grammars;
    }
