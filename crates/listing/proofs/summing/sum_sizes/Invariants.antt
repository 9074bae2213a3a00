use Rattle.std.proofs.Common.{◌≡◌, ℕ, ◌≤◌, ◌+◌, ◌*◌, ◌-◌, Option, None, IfSome}
use Rattle.feasibility.specs.Tables.{Keeps}
use Rattle.listing.specs.Progress.{asked_of}
use Rattle.listing.specs.Doing.{IsDoneBelow}
use Rattle.listing.specs.Summing.{IsSum, each_of}
use Rattle.listing.proofs.summing.sum_sizes.Given as goal

abbrev pub invariant-loop-done : goal.invariant-loop-done
invariant-loop-done g l = record {
  most : l.done ≤ l.size;
  room : l.lister.room ≡ l.size;
  some : IfSome l.left (λ k. 1 ≤ k);
  kept : Keeps l.fn.table l.table;
  grown : l.fn.table.grown ≤ l.size → (l.done ≤ l.table.grown) × (l.table.grown ≤ l.size);
  sums : (x y : ℕ) (page : Option ℕ) →
      IsDoneBelow (asked_of l.fn.table l.size None) (IsSum l.fn.tally x y (each_of l.fn.table l.size) l.fn.steps) page 1 l.fn.left →
      IsDoneBelow (asked_of l.fn.table l.size None)
      (IsSum l.tally (x + l.fn.table.spent) (y + l.table.spent + each_of l.fn.table l.size * l.done) (each_of l.fn.table l.size) l.steps) page (l.done + 1) l.left;
}

abbrev pub decreases-loop-done : goal.decreases-loop-done
decreases-loop-done g l = l.size - l.done
