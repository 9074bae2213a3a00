use Rattle.std.proofs.Common.{◌≡◌, ◌+◌, ◌*◌, ◌-◌, ◌≤◌, length}
use Rattle.rng_model.specs.Codes.{nodes}
use Rattle.rng_model.specs.Universe.{event_count}
use Rattle.feasibility.specs.Tables.{lists}
use Rattle.lister.specs.Descents.{LeadsUpTo, Descends}
use Rattle.lister.proofs.descent.descend.Given as goal

abbrev pub invariant-loop-rest : goal.invariant-loop-rest
invariant-loop-rest g l = record {
  down : Descends l.table (nodes l.fn.path.codes + l.fn.left) l.fn.path l.path;
  leads : LeadsUpTo l.table l.path l.id.0 l.rest;
  size : nodes l.path.codes + l.rest ≡ nodes l.fn.path.codes + l.fn.left;
  ticks : l.steps + 2 * event_count (lists l.table) * length l.fn.path.codes ≤ l.fn.steps + 2 * event_count (lists l.table) * length l.path.codes;
}

abbrev pub decreases-loop-rest : goal.decreases-loop-rest
decreases-loop-rest g l = 3 * l.path.room - length l.path.codes
