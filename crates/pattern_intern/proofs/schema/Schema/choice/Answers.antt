use Rattle.pattern_intern.proofs.Keeping.{schema_kept, still_schema}
use Rattle.pattern_intern.proofs.schema.Schema.choice.Goals as goal

pub invariant_of-self : goal.invariant_of-self
invariant_of-self c = still_schema _ _ _ _ c.self.invariant c.choice.ensures.kept c.choice.ensures.refs

pub returns-clause-schema : goal.returns-clause-schema
returns-clause-schema c = rw (← c.self.view_is) (schema_kept _ _ _ _ c.self.invariant c.choice.ensures.kept)
