-- The number falls; no member before the rest takes it.
use Rattle.std.proofs.Common.{◌≡◌, ◌<◌, ◌+◌, ◌*◌}
use Rattle.pattern_intern.specs.Stored.{tree_at}
use Rattle.derivatives.specs.Takes.{has_text}
use Rattle.derivatives.specs.Visits.{AreBare}
use Rattle.derivatives.proofs.text_taken.+text.Given as goal

abbrev pub decreases-text_in : goal.decreases-text_in
decreases-text_in l = 3 * l.id.0 + 2

abbrev pub decreases-text_in_parts : goal.decreases-text_in_parts
decreases-text_in_parts l = 3 * l.id.0 + 1

abbrev pub decreases-text_in_members : goal.decreases-text_in_members
decreases-text_in_members l = 3 * l.id.0

abbrev pub invariant-text_in_members-loop-member : goal.invariant-text_in_members-loop-member
invariant-text_in_members-loop-member l = record {
  rest_below : l.rest.0 < l.fn.id.0;
  same : has_text (tree_at l.pool l.fn.id.0) ≡ has_text (tree_at l.pool l.rest.0);
  bare : AreBare (has_text) l.pool l.bare;
}

abbrev pub decreases-text_in_members-loop-member : goal.decreases-text_in_members-loop-member
decreases-text_in_members-loop-member l = l.rest.0
