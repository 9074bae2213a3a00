use Rattle.std.proofs.Common.{ap, ◌∙◌}
use Rattle.tree_graph.proofs.Names.{names_in, names_with}
use Rattle.tree_graph.proofs.defined_names.DefinedNames.add.Goals as goal

pub returns : goal.returns
returns c = rw (← c.self.view_is) (ap names_in c.in_ok-insert.ensures.keys ∙ names_with c.args.name c.self.inside.names.keys)
