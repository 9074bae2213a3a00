use Rattle.std.proofs.Common.{◌≡◌, ◌+◌, ◌-◌, length}
use Rattle.feasibility.specs.Exploring.{found}
use Rattle.feasibility.specs.Growing.{AddsFrees}
use Rattle.feasibility.proofs.growing.find_frees.Given as goal

abbrev pub invariant-loop-explorer : goal.invariant-loop-explorer
invariant-loop-explorer g l = record {
  adds : AddsFrees l.fn.explorer l.explorer l.fn.frees.items l.frees.items;
  none : length (found l.fn.explorer) ≡ 0 → length (found l.explorer) ≡ 0;
  ticks : l.steps + length l.fn.frees.items ≡ l.fn.steps + length l.frees.items;
}

abbrev pub decreases-loop-explorer : goal.decreases-loop-explorer
decreases-loop-explorer g l = l.explorer.limit - length l.frees.items
