-- The number falls; no member before the rest takes it.
use Rattle.std.proofs.Common.{◌≡◌, ◌<◌, ◌+◌, ◌*◌}
use Rattle.pattern_intern.specs.Stored.{tree_at}
use Rattle.table_laws.specs.Remainders.{takes_name}
use Rattle.derivatives.specs.Visits.{AreBare}
use Rattle.derivatives.proofs.name_taken.+name.Given as goal

abbrev pub decreases-name_in : goal.decreases-name_in
decreases-name_in l = 3 * l.id.0 + 2

abbrev pub decreases-name_in_parts : goal.decreases-name_in_parts
decreases-name_in_parts l = 3 * l.id.0 + 1

abbrev pub decreases-name_in_members : goal.decreases-name_in_members
decreases-name_in_members l = 3 * l.id.0

abbrev pub invariant-name_in_members-loop-member : goal.invariant-name_in_members-loop-member
invariant-name_in_members-loop-member l = record {
  rest_below : l.rest.0 < l.fn.id.0;
  same : takes_name l.name (tree_at l.pool l.fn.id.0) ≡ takes_name l.name (tree_at l.pool l.rest.0);
  bare : AreBare (takes_name l.name) l.pool l.bare;
}

abbrev pub decreases-name_in_members-loop-member : goal.decreases-name_in_members-loop-member
decreases-name_in_members-loop-member l = l.rest.0
