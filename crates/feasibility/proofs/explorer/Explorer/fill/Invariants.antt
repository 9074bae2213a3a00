-- The codes before the position are done.
use Rattle.feasibility.proofs.Filled.{IsFilling}
use Rattle.feasibility.proofs.explorer.Explorer.fill.Given as goal

abbrev pub invariant-loop-position : goal.invariant-loop-position
invariant-loop-position g l = IsFilling l.fn.self l.self l.from.0 l.family l.position l.fn.known.items l.known.items l.row l.fn.steps l.steps
