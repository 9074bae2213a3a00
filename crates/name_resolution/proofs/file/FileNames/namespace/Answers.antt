use Rattle.std.proofs.Common.{◌∙◌, ap}
use Rattle.simple_form_laws.specs.Prefixes.{look_up, namespace_table}
use Rattle.name_resolution.proofs.file.FileNames.namespace.Goals as goal

pub returns : goal.returns
returns c = c.get.ensures ∙ c.self.invariant.namespaces c.args.prefix.now ∙ ap (λ f. look_up (namespace_table f) c.args.prefix.now) c.self.view_is
