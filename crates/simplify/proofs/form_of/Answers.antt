use Rattle.std.proofs.Common.{subst}
use Rattle.schema_tree.specs.Files.{full_of}
use Rattle.simple_form_laws.specs.Faults.{IsTooDeep}
use Rattle.simplify.proofs.form_of.Goals as goal

pub returns-clause-formed : goal.returns-clause-formed
returns-clause-formed c =
    let f = full_of c.args.full.now in
    let form = c.in_ok-schema.ensures.ok.form f c.in_ok-graph.ensures.graph in
    record {
      form = form;
      loops = c.in_ok-forms.ensures.no_loop.sound f c.in_ok-graph.ensures.graph;
      shallow = λ h. c.in_ok-schema.ensures.ok.shallow
          (subst IsTooDeep (c.one_schema.ensures f h.0 c.in_ok-schema.field-0.schema h.1 form) h.2);
    }
