use Rattle.std.proofs.Common.{◌+◌, ◌*◌, ◌≤◌}
use Rattle.rng_model.specs.Hedges.{size}
use Rattle.cursor.proofs.Standing.{StandsAt}
use Rattle.cursor.proofs.placing.place.Given as goal

abbrev pub invariant-loop-position : goal.invariant-loop-position
invariant-loop-position g l = record {
  stands : StandsAt l.table l.cursor l.position l.id.0 l.rest;
  small : size l.cursor ≤ l.n;
  ticks : l.steps ≤ l.fn.steps + 2 * l.position;
}
