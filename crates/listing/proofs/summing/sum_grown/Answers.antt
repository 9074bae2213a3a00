use Rattle.std.proofs.Common.{◌+◌, ◌≤◌, arith, sym, subst, None}
use Rattle.feasibility.specs.Limits.{IsOverLimit}
use Rattle.listing.specs.Progress.{asked_of}
use Rattle.listing.specs.Summing.{IsSum}
use Rattle.listing.specs.declared.listing_end.ListingEnd.{ListingEnd}
use Rattle.listing.proofs.StateLines.{spent_small}
use Rattle.listing.proofs.Sums.{stopped, lacks, ends_so, below_so, sum_later, ready_first, no_cursor, after_grown, same_each}
use Rattle.listing.proofs.summing.sum_grown.Goals as goal

pub returns-in-Err-StateLimit-clause-sums : goal.returns-in-Err-StateLimit-clause-sums
returns-in-Err-StateLimit-clause-sums g c = λ n x y each most page l k j h.
    let t = c.args.table.now in
    let totals = c.args.tally.now in
    let s = c.args.steps.now in
    let s1 = c.grow_to.new.steps in
    let refused = c.in-Err-StateLimit.ensures.refused in
    ends_so (asked_of t n None) (IsSum totals x y each s) (IsSum totals (x + t.spent) (y + most + each) each s1) page
    (ListingEnd.Stopped c.in-Err-StateLimit.size c.in-Err-StateLimit.count)
    (λ front q. sum_later totals x y each s (x + t.spent) (y + most + each) s1 front (omega (arith, refused, j)) q)
    (stopped t n (IsSum totals x y each s) page c.args.left.now c.args.size c.requires.from l h c.in-Err-StateLimit.size c.in-Err-StateLimit.count
    (subst (IsOverLimit t c.args.size) c.in-Err-StateLimit.field-0-is c.in-Err-StateLimit.ensures.limit))

pub returns-in-Err-OutOfMemory-clause-sums : goal.returns-in-Err-OutOfMemory-clause-sums
returns-in-Err-OutOfMemory-clause-sums g c = λ n x y each most page l k j h.
    let t = c.args.table.now in
    let totals = c.args.tally.now in
    let s = c.args.steps.now in
    let s1 = c.grow_to.new.steps in
    let refused = c.in-Err-OutOfMemory.ensures.refused in
    ends_so (asked_of t n None) (IsSum totals x y each s) (IsSum totals (x + t.spent) (y + most + each) each s1) page ListingEnd.OutOfMemory
    (λ front q. sum_later totals x y each s (x + t.spent) (y + most + each) s1 front (omega (arith, refused, j)) q)
    (lacks t n (IsSum totals x y each s) page c.args.left.now c.args.size h)

pub returns-clause-sums : goal.returns-clause-sums
returns-clause-sums g c = λ n x y each most page l k j h.
    let t = c.args.table.now in
    let new = c.grow_to.new.self in
    let v = c.first_of_size.new.self in
    let kept = c.grow_to.ensures.kept in
    let totals = c.args.tally.now in
    let s = c.args.steps.now in
    let s1 = c.grow_to.new.steps in
    let spent = c.in-Ok.ensures.spent in
    let begin = IsSum totals (x + t.spent) (y + new.spent) each s1 in
    let below = below_so (asked_of t n None) (IsSum totals x y each s) begin page c.args.size c.args.left.now
    (λ front q. sum_later totals x y each s (x + t.spent) (y + new.spent) s1 front (omega (arith, spent)) q) h in
    let ready = ready_first t new n None begin page c.args.size c.args.left.now v kept l c.in-Ok.ensures.few (no_cursor t n c.args.size) below c.first_of_size.ensures.size c.first_of_size.ensures.stage in
    let least = subst (λ i. i ≤ each) (sym (same_each t new c.args.lister.now.room v.room kept c.first_of_size.ensures.room)) k in
    let now = c.sum_size.new.tally in
    let s2 = c.sum_size.new.steps in
    let small = spent_small t new kept c.holds.ensures in
    after_grown t new n page (c.args.size + 1) c.sum_size.new.left (IsSum now (x + t.spent) (y + new.spent + each) each s2)
    (IsSum now (x + t.spent) (y + most + each) each s2) c.sum_size.result kept
    (λ front q. sum_later now (x + t.spent) (y + new.spent + each) each s2 (x + t.spent) (y + most + each) s2 front (omega (arith, small, j)) q)
    (c.sum_size.ensures.sums n (x + t.spent) (y + new.spent) each page least ready)
