use Rattle.pattern_intern.proofs.Keeping.{none_below}
use Rattle.pattern_intern.proofs.schema.Definitions.new.Goals as goal

pub returns-clause-below : goal.returns-clause-below
returns-clause-below c = λ n. rw c.new.ensures.items (none_below n)
