use Rattle.pattern_intern.proofs.Absent.{taken_class}
use Rattle.pattern_intern.proofs.intern.intern_class.Goals as goal

pub returns-clause-made : goal.returns-clause-made
returns-clause-made c =
    taken_class _ _ c.args.class c.in_ok-id.id c.in_ok-id.ensures.keys c.in_ok-id.ensures.index
    c.in_ok-id.ensures.stored.0 c.in_ok-id.ensures.stored.1 c.in_ok-id.ensures.stored.2
