use Rattle.std.proofs.Common.{◌≡◌, ◌≤◌, ◌+◌, ◌-◌, None, is_some}
use Rattle.feasibility.specs.Tables.{Keeps}
use Rattle.listing.specs.Progress.{asked_of}
use Rattle.listing.specs.Counting.{IsCountedBelow}
use Rattle.listing.proofs.counting.write_counts.Given as goal

abbrev pub invariant-loop-m : goal.invariant-loop-m
invariant-loop-m g l = record {
  some : 1 ≤ l.m;
  most : l.m ≤ l.size + 1;
  next : l.table.grown + 1 ≡ l.m;
  kept : Keeps l.fn.table l.table;
  counted : IsCountedBelow (asked_of l.fn.table l.size None) l.m (g.O.Sink.taken l.fn.out) (g.O.Sink.taken l.out);
  told : is_some (g.O.Sink.taken l.out) ≡ is_some (g.O.Sink.taken l.fn.out);
  faults : g.O.Sink.faults l.out ≡ g.O.Sink.faults l.fn.out;
  spent : l.steps + l.fn.table.spent ≤ l.fn.steps + l.table.spent;
}

abbrev pub decreases-loop-m : goal.decreases-loop-m
decreases-loop-m g l = l.size + 1 - l.m
