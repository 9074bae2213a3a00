use Rattle.std.proofs.Common.{◌≡◌, None, ℕ, ◌≤◌, Option, IfSome}
use Rattle.feasibility.specs.Tables.{lists}
use Rattle.lister.specs.Walks.{IsWalkOf, IsSet}
use Rattle.listing.specs.Progress.{walk_left}
use Rattle.listing.specs.Doing.{IsReady}
use Rattle.listing.specs.Summing.{IsSum, each_of}
use Rattle.listing.proofs.summing.sum_size.Given as goal

abbrev pub invariant-loop : goal.invariant-loop
invariant-loop g l = record {
  set : IsSet l.lister.stage;
  own : IsWalkOf l.table l.lister.size l.lister.stage;
  room : l.lister.room ≡ l.fn.lister.room;
  size : l.lister.size ≡ l.size;
  some : IfSome l.left (λ k. 1 ≤ k);
  ready : (n x y each : ℕ) (page : Option ℕ) → each_of l.table l.fn.lister.room ≤ each →
      IsReady l.table n None (IsSum l.fn.tally x y each l.fn.steps) page l.fn.lister l.fn.left → IsReady l.table n None (IsSum l.tally x y each l.steps) page l.lister l.left;
}

abbrev pub decreases-loop : goal.decreases-loop
decreases-loop g l = walk_left (lists l.table) l.lister.size l.lister.stage
