use Rattle.std.proofs.Common.{◌+◌, ◌*◌, arith, None}
use Rattle.feasibility.specs.Tables.{group_total}
use Rattle.listing_laws.specs.Pending.{Ending}
use Rattle.listing.specs.Progress.{asked_of}
use Rattle.listing.specs.Summing.{each_of}
use Rattle.listing.proofs.FromSizeToSize.{keeps_itself}
use Rattle.listing.proofs.StateLines.{spent_small}
use Rattle.listing.proofs.Sums.{sum_starts, sums_as, sum_steps, all_steps}
use Rattle.listing.proofs.summing.sum_listing.Goals as goal

pub returns-in_default-clause-ticks : goal.returns-in_default-clause-ticks
returns-in_default-clause-ticks g c = λ e queue ends.
    let t = c.args.table.now in
    let small = spent_small t t (keeps_itself t) c.holds.ensures in
    omega (arith, small)

pub returns-clause-ends : goal.returns-clause-ends
returns-clause-ends g c =
    let t = c.args.table.now in
    let s = c.args.steps.now in
    let size = c.args.size in
    let each = each_of t size in
    let y = s + group_total t * (t.limit + 1) + each * size in
    sums_as (asked_of t size None) c.args.page c.sum_sizes-end.new.tally (0 + t.spent) y each c.sum_sizes-end.new.steps c.sum_sizes-end.result
    (c.sum_sizes-end.ensures.sums 0 s c.args.page (sum_starts t size c.args.page c.new-tally.result each s c.new-tally.ensures c.requires.page))

pub returns-clause-ticks : goal.returns-clause-ticks
returns-clause-ticks g c = λ e queue ends.
    let t = c.args.table.now in
    let s = c.args.steps.now in
    let size = c.args.size in
    let each = each_of t size in
    let y = s + group_total t * (t.limit + 1) + each * size in
    let sum = sum_steps (asked_of t size None) c.args.page c.sum_sizes-end.new.tally (0 + t.spent) y each c.sum_sizes-end.new.steps e queue ends c.sum_sizes-end.result
    (c.sum_sizes-end.ensures.sums 0 s c.args.page (sum_starts t size c.args.page c.new-tally.result each s c.new-tally.ensures c.requires.page)) in
    omega (arith, sum)

pub returns-clause-whole : goal.returns-clause-whole
returns-clause-whole g c = λ e queue ends is.
    let t = c.args.table.now in
    let s = c.args.steps.now in
    let size = c.args.size in
    let each = each_of t size in
    let y = s + c.sum_sizes-end.new.table.spent + each * size in
    let sum = all_steps (asked_of t size None) c.args.page c.sum_sizes-end.new.tally (0 + t.spent) y each c.sum_sizes-end.new.steps e queue ends Ending.whole
    (c.sum_sizes-end.ensures.whole 0 s c.args.page (sum_starts t size c.args.page c.new-tally.result each s c.new-tally.ensures c.requires.page) is) in
    omega (arith, sum)
