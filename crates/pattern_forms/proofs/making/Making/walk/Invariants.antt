use Rattle.pattern_forms.specs.Making.{IsWalk, work}
use Rattle.pattern_forms.proofs.making.Making.walk.Given as goal

abbrev pub invariant-loop-frame : goal.invariant-loop-frame
invariant-loop-frame l = IsWalk l.graph l.start l.fn.self l.self l.path.items

abbrev pub decreases-loop-frame : goal.decreases-loop-frame
decreases-loop-frame l = work l.self l.path.items
