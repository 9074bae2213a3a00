use Rattle.tree_graph.proofs.parts.Parts.into_lists.Goals as goal

pub returns-clause-within : goal.returns-clause-within
returns-clause-within c = rw (← c.self.view_is) c.self.invariant
