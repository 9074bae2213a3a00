use Rattle.std.proofs.Common.{length-set}
use Rattle.tree_graph.proofs.parts.Parts.set_definition.Goals as goal

pub invariant_of-self : goal.invariant_of-self
invariant_of-self c = rw (length-set c.self.inside.definitions.items c.args.definition c.args.node) c.self.invariant
