use Rattle.std.proofs.Common.{◌≡◌, ◌+◌, ◌≤◌, take, ℕ}
use Rattle.rng_model.specs.Hedges.{size}
use Rattle.rng_model.specs.Events.{events}
use Rattle.rng_model.specs.Codes.{nodes, AreCodes}
use Rattle.feasibility.specs.Tables.{lists}
use Rattle.lister.specs.Descents.{LeadsUpTo}
use Rattle.lister.proofs.following.follow.Given as goal

abbrev pub invariant-loop-event : goal.invariant-loop-event
invariant-loop-event g l = record {
  codes : AreCodes (lists l.table) (take l.event-index (events l.cursor)) l.path.codes;
  left : ℕ;
  leads : LeadsUpTo l.table l.path l.id.0 left;
  size : nodes l.path.codes + left ≡ size l.cursor;
  room : l.path.room ≡ l.fn.path.room;
  ticks : l.steps ≤ l.fn.steps + l.event-index;
}
