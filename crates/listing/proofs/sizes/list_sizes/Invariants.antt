use Rattle.std.proofs.Common.{◌≡◌, ℕ, ◌≤◌, ◌+◌, ◌*◌, ◌-◌, List, Option, IfSome, is_some}
use Rattle.rng_model.specs.Hedges.{Skeleton}
use Rattle.feasibility.specs.Tables.{Keeps}
use Rattle.listing_laws.specs.Fronts.{IsBehind}
use Rattle.listing.specs.Progress.{asked_of}
use Rattle.listing.specs.Endings.{IsAtSize}
use Rattle.listing.specs.Doing.{IsDoneBelow}
use Rattle.listing.specs.Summing.{each_of}
use Rattle.listing.specs.Costs.{IsWrittenFor}
use Rattle.listing.proofs.sizes.list_sizes.Given as goal

abbrev pub invariant-loop-m : goal.invariant-loop-m
invariant-loop-m g l = record {
  some : 1 ≤ l.m;
  most : l.m ≤ l.size + 1;
  room : l.lister.room ≡ l.size;
  left : IfSome l.left (λ k. 1 ≤ k);
  kept : Keeps l.fn.table l.table;
  comes : (after : Option Skeleton) (page : Option ℕ) (taken : Option (List ℕ)) →
      IsAtSize l.fn.table l.size after l.fn.first page l.fn.left taken (g.O.Sink.taken l.fn.out) →
      IsAtSize l.fn.table l.size after l.m page l.left taken (g.O.Sink.taken l.out);
  costs : (x y : ℕ) (after : Option Skeleton) (page : Option ℕ) (taken : Option (List ℕ)) → IsBehind (asked_of l.fn.table l.size after) l.fn.first →
      IsDoneBelow (asked_of l.fn.table l.size after) (IsWrittenFor taken (g.O.Sink.taken l.fn.out) (x + each_of l.fn.table l.size)
      (y + each_of l.fn.table l.size * l.fn.first) (each_of l.fn.table l.size) l.fn.steps) page l.fn.first l.fn.left →
      IsBehind (asked_of l.fn.table l.size after) l.m × IsDoneBelow (asked_of l.fn.table l.size after)
      (IsWrittenFor taken (g.O.Sink.taken l.out) (x + each_of l.fn.table l.size + l.fn.table.spent) (y + l.table.spent + each_of l.fn.table l.size * l.m)
      (each_of l.fn.table l.size) l.steps) page l.m l.left;
  grown : l.fn.table.grown ≤ l.size → l.fn.first ≤ l.fn.table.grown + 1 → (l.m ≤ l.table.grown + 1) × (l.table.grown ≤ l.size);
  spellings : l.lines.spellings ≡ l.fn.lines.spellings;
  told : is_some (g.O.Sink.taken l.out) ≡ is_some (g.O.Sink.taken l.fn.out);
  faults : g.O.Sink.faults l.out ≡ g.O.Sink.faults l.fn.out;
}

abbrev pub decreases-loop-m : goal.decreases-loop-m
decreases-loop-m g l = l.size + 1 - l.m
