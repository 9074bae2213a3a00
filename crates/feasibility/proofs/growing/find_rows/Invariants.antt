use Rattle.std.proofs.Common.{◌≡◌, ◌+◌, ◌*◌, ◌-◌, ◌≤◌, length}
use Rattle.feasibility.specs.Exploring.{found, groups_of, names}
use Rattle.feasibility.specs.Grown.{row_total}
use Rattle.feasibility.specs.Growing.{AddsRows}
use Rattle.feasibility.proofs.growing.find_rows.Given as goal

abbrev pub invariant-loop-alloc : goal.invariant-loop-alloc
invariant-loop-alloc g l = record {
  adds : AddsRows l.fn.explorer l.explorer l.fn.rows l.rows;
  none : length (found l.fn.explorer) ≡ 0 → length (found l.explorer) ≡ 0;
  ticks : l.steps + row_total (names l.fn.explorer) (groups_of l.fn.explorer) * length l.fn.rows ≤
      l.fn.steps + row_total (names l.fn.explorer) (groups_of l.fn.explorer) * length l.rows;
}

abbrev pub decreases-loop-alloc : goal.decreases-loop-alloc
decreases-loop-alloc g l = l.end - length l.rows
