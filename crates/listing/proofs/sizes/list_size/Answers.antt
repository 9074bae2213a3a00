use Rattle.std.proofs.Common.{◌+◌, sym, subst, ◌≤◌, arith}
use Rattle.feasibility.specs.Limits.{IsOverLimit}
use Rattle.listing.proofs.FromSizeToSize.{after_size, ready_first, stopped, lacks}
use Rattle.listing.specs.Progress.{asked_of}
use Rattle.listing.specs.Costs.{IsWrittenFor, CostsTo}
use Rattle.listing.proofs.StateLines.{spent_small}
use Rattle.listing.proofs.Steps.{spelled_on}
use Rattle.listing.proofs.Held.{held_before}
use Rattle.listing.proofs.Sums as sums
use Rattle.listing.proofs.Costs.{below_later, cost_below, cost_later, costs_grown, costs_later}
use Rattle.listing.proofs.sizes.list_size.Goals as goal

pub write_size-requires-clause-spelled : goal.write_size-requires-clause-spelled
write_size-requires-clause-spelled g c = spelled_on c.args.table.now c.grow_to.new.self c.args.lines.now.spellings c.grow_to.ensures.kept c.requires.spelled

pub write_size-requires-clause-held : goal.write_size-requires-clause-held
write_size-requires-clause-held g c = held_before c.first_of_size.new.self.stage c.args.lines.now.codes c.first_of_size.ensures.stage

pub returns-in-Err-StateLimit-clause-goes_on : goal.returns-in-Err-StateLimit-clause-goes_on
returns-in-Err-StateLimit-clause-goes_on g c = λ n after page taken l h.
    stopped c.args.table.now n after page c.args.left.now taken (g.O.Sink.taken c.args.out.now) c.args.m c.requires.some l h
    c.in-Err-StateLimit.size c.in-Err-StateLimit.count
    (subst (IsOverLimit c.args.table.now c.args.m) c.in-Err-StateLimit.field-0-is c.in-Err-StateLimit.ensures.limit)

pub returns-in-Err-OutOfMemory-clause-goes_on : goal.returns-in-Err-OutOfMemory-clause-goes_on
returns-in-Err-OutOfMemory-clause-goes_on g c = λ n after page taken l h.
    lacks c.args.table.now n after page c.args.left.now taken (g.O.Sink.taken c.args.out.now) c.args.m h

pub returns-clause-goes_on : goal.returns-clause-goes_on
returns-clause-goes_on g c = λ n after page taken l h.
    let t = c.args.table.now in
    let new = c.grow_to.new.self in
    let v = c.first_of_size.new.self in
    let old = g.O.Sink.taken c.args.out.now in
    let kept = c.grow_to.ensures.kept in
    let ready = ready_first t new n after c.args.m page c.args.left.now taken old v kept l c.in-Ok.ensures.few h c.first_of_size.ensures.size c.first_of_size.ensures.stage in
    after_size t new n after c.args.m page c.write_size.new.left taken (g.O.Sink.taken c.write_size.new.out) v c.write_size.result kept
    c.first_of_size.ensures.size h.behind (c.write_size.ensures.completes n after page taken ready)

pub returns-in-Err-StateLimit-clause-costs : goal.returns-in-Err-StateLimit-clause-costs
returns-in-Err-StateLimit-clause-costs g c = λ n x y each most after page taken l k j b h.
    let t = c.args.table.now in
    let s = c.args.steps.now in
    let s1 = c.grow_to.new.steps in
    let now = g.O.Sink.taken c.args.out.now in
    let refused = c.in-Err-StateLimit.ensures.refused in
    cost_later (asked_of t n after) page taken now x y each s (x + t.spent) (y + most + each) s1 (omega (arith, refused, j))
    (cost_below (asked_of t n after) page taken now x y each s c.args.m c.args.left.now h)

pub returns-in-Err-OutOfMemory-clause-costs : goal.returns-in-Err-OutOfMemory-clause-costs
returns-in-Err-OutOfMemory-clause-costs g c = λ n x y each most after page taken l k j b h.
    let t = c.args.table.now in
    let s = c.args.steps.now in
    let s1 = c.grow_to.new.steps in
    let now = g.O.Sink.taken c.args.out.now in
    let refused = c.in-Err-OutOfMemory.ensures.refused in
    cost_later (asked_of t n after) page taken now x y each s (x + t.spent) (y + most + each) s1 (omega (arith, refused, j))
    (cost_below (asked_of t n after) page taken now x y each s c.args.m c.args.left.now h)

pub returns-clause-costs : goal.returns-clause-costs
returns-clause-costs g c = λ n x y each most after page taken l k j b h.
    let t = c.args.table.now in
    let new = c.grow_to.new.self in
    let v = c.first_of_size.new.self in
    let kept = c.grow_to.ensures.kept in
    let s = c.args.steps.now in
    let s1 = c.grow_to.new.steps in
    let old = g.O.Sink.taken c.args.out.now in
    let spent = c.in-Ok.ensures.spent in
    let begin = IsWrittenFor taken old (x + t.spent) (y + new.spent) each s1 in
    let below = below_later (asked_of t n after) page taken old x y each s (x + t.spent) (y + new.spent) s1 c.args.m c.args.left.now (omega (arith, spent)) h in
    let ready = sums.ready_first t new n after begin page c.args.m c.args.left.now v kept l c.in-Ok.ensures.few b below c.first_of_size.ensures.size c.first_of_size.ensures.stage in
    let least = subst (λ i. i ≤ each) (sym (sums.same_each t new c.args.lister.now.room v.room kept c.first_of_size.ensures.room)) k in
    let r = c.write_size.result in
    let left = c.write_size.new.left in
    let now = g.O.Sink.taken c.write_size.new.out in
    let s2 = c.write_size.new.steps in
    let x1 = x + t.spent in
    let y1 = y + new.spent + each in
    let ran = subst (λ i. CostsTo new n after page taken now x1 y1 each s2 y1 (i + 1) left r) c.first_of_size.ensures.size
    (c.write_size.ensures.costs n x1 (y + new.spent) each after page taken least ready) in
    let small = spent_small t new kept c.holds.ensures in
    costs_later t n after page taken now x1 y1 each s2 y1 y1 (y + most + each) (c.args.m + 1) left r (omega arith) (omega (arith, small, j))
    (costs_grown t new n after page taken now x1 y1 each s2 y1 (c.args.m + 1) left r kept ran)
