-- The names before this one are done.
use Rattle.feasibility.proofs.Naming.{IsNaming}
use Rattle.feasibility.proofs.explorer.Explorer.fill_names.Given as goal

abbrev pub invariant-loop-name : goal.invariant-loop-name
invariant-loop-name g l = IsNaming l.fn.self l.self l.from.0 l.name l.fn.known l.known l.row l.fn.steps l.steps
