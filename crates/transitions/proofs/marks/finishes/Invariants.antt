use Rattle.std.proofs.Common.{◌<◌, ◌↔◌}
use Rattle.table_laws.specs.Reaching.{free_codes_left}
use Rattle.transitions.specs.Automata.{at}
use Rattle.transitions.specs.Marked.{Finishes, end_of}
use Rattle.transitions.proofs.marks.finishes.Given as goal

abbrev pub invariant-walk : goal.invariant-walk
invariant-walk g l = (l.id < end_of l.block) × (Finishes g.of l.block.rest l.from ↔ Finishes g.of l.block.rest l.id)

abbrev pub decreases-walk : goal.decreases-walk
decreases-walk g l = free_codes_left (at g.of l.id)
