use Rattle.std.proofs.Common.{◌≡◌, ℕ, ◌≤◌, List, Option, IfSome, is_some}
use Rattle.rng_model.specs.Hedges.{Skeleton}
use Rattle.feasibility.specs.Tables.{lists}
use Rattle.lister.specs.Walks.{IsWalkOf, IsSet}
use Rattle.listing.specs.Progress.{walk_left}
use Rattle.listing.specs.Endings.{IsReadyFor}
use Rattle.listing.specs.Doing.{IsReady}
use Rattle.listing.specs.Held.{IsHeldAt}
use Rattle.listing.specs.Summing.{each_of}
use Rattle.listing.specs.Costs.{IsWrittenFor}
use Rattle.listing.proofs.writing.write_size.Given as goal

abbrev pub invariant-loop : goal.invariant-loop
invariant-loop g l = record {
  set : IsSet l.lister.stage;
  own : IsWalkOf l.table l.lister.size l.lister.stage;
  room : l.lister.room ≡ l.fn.lister.room;
  size : l.lister.size ≡ l.fn.lister.size;
  some : IfSome l.left (λ k. 1 ≤ k);
  ready : (n : ℕ) (after : Option Skeleton) (page : Option ℕ) (taken : Option (List ℕ)) →
      IsReadyFor l.table n after l.fn.lister page l.fn.left taken (g.O.Sink.taken l.fn.out) → IsReadyFor l.table n after l.lister page l.left taken (g.O.Sink.taken l.out);
  costs : (n x y each : ℕ) (after : Option Skeleton) (page : Option ℕ) (taken : Option (List ℕ)) → each_of l.table l.fn.lister.room ≤ each →
      IsReady l.table n after (IsWrittenFor taken (g.O.Sink.taken l.fn.out) x y each l.fn.steps) page l.fn.lister l.fn.left →
      IsReady l.table n after (IsWrittenFor taken (g.O.Sink.taken l.out) x y each l.steps) page l.lister l.left;
  spellings : l.lines.spellings ≡ l.fn.lines.spellings;
  held : IsHeldAt l.lister.stage l.lines.codes;
  told : is_some (g.O.Sink.taken l.out) ≡ is_some (g.O.Sink.taken l.fn.out);
  faults : g.O.Sink.faults l.out ≡ g.O.Sink.faults l.fn.out;
}

abbrev pub decreases-loop : goal.decreases-loop
decreases-loop g l = walk_left (lists l.table) l.lister.size l.lister.stage
