use Rattle.pattern_intern.proofs.pool.Pool.facts.Goals as goal

pub returns-in-Attribute : goal.returns-in-Attribute
returns-in-Attribute c = rw c.in-Attribute.is (c.facts_of_attribute.ensures _)
