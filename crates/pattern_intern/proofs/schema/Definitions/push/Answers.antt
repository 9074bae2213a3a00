use Rattle.std.proofs.Common.{List, subst, sym}
use Rattle.pattern_intern.specs.Schemas.{Entry, AreBelow}
use Rattle.pattern_intern.proofs.Keeping.{pushed_below}
use Rattle.pattern_intern.proofs.schema.Definitions.push.Goals as goal

pub returns-clause-below : goal.returns-clause-below
returns-clause-below c = λ n h l. pushed_below _ _ _ c.in_ok-push.ensures.items n (subst (λ (v : List Entry). AreBelow n v) (sym c.self.view_is) h) l
