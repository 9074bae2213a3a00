use Rattle.std.proofs.Common.{◌∙◌}
use Rattle.tree_graph.proofs.Names.{position_in}
use Rattle.tree_graph.proofs.defined_names.DefinedNames.position.Goals as goal

pub returns-clause-value : goal.returns-clause-value
returns-clause-value c = rw (← c.self.view_is) (c.get_index_of.ensures.index ∙ position_in c.args.name.now c.self.inside.names.keys)
