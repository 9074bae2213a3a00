use Rattle.std.proofs.Common.{◌+◌, ◌*◌, ◌≤◌, length}
use Rattle.rng_model.specs.Universe.{event_count}
use Rattle.feasibility.specs.Tables.{lists}
use Rattle.lister.proofs.Retreating.{Retreats}
use Rattle.lister.proofs.descent.go_back.Given as goal

abbrev pub invariant-loop-id : goal.invariant-loop-id
invariant-loop-id g l = record {
  back : Retreats l.table l.fn.path l.path l.rest;
  ticks : l.steps + 2 * event_count (lists l.table) * length l.path.states ≤ l.fn.steps + 2 * event_count (lists l.table) * length l.fn.path.states;
}

abbrev pub decreases-loop-id : goal.decreases-loop-id
decreases-loop-id g l = length l.path.states
