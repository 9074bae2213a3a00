use Rattle.std.proofs.Common.{◌≡◌, ◌+◌, ◌*◌, ◌∙◌, ap, arith, refl, sym, subst}
use Rattle.event_lines.specs.Spelled.{AreSpellings}
use Rattle.feasibility.specs.Tables.{group_total, lists}
use Rattle.listing.specs.Progress.{asked_of}
use Rattle.listing.specs.Endings.{IsAtSize, IsCut}
use Rattle.listing.specs.Doing.{IsDoneBelow}
use Rattle.listing.specs.Summing.{each_of}
use Rattle.listing.specs.Costs.{IsWrittenFor, HasCost}
use Rattle.listing.proofs.StateLines.{spent_small}
use Rattle.listing.proofs.Steps.{spelled_on}
use Rattle.listing.proofs.Sums.{same_each, same_most, one_size, few_sizes}
use Rattle.listing.proofs.Costs.{below_later, cost_below, cost_later, behind_more}
use Rattle.listing.proofs.FromSizeToSize.{keeps_itself, keeps_on, same_asked, at_grown, at_smaller, whole}
use Rattle.listing.proofs.sizes.list_sizes.Goals as goal

pub list_size-requires-clause-spelled : goal.list_size-requires-clause-spelled
list_size-requires-clause-spelled g c =
    subst (AreSpellings (lists c.loop-m.table)) (sym c.loop-m.invariant.spellings)
    (spelled_on c.args.table.now c.loop-m.table c.args.lines.now.spellings c.loop-m.invariant.kept c.requires.spelled)

pub loop-m-init : goal.loop-m-init
loop-m-init g c = record {
  some = c.requires.some;
  most = c.requires.most;
  room = c.requires.room;
  left = c.requires.left;
  kept = keeps_itself c.args.table.now;
  comes = λ after page taken h. h;
  costs = λ x y after page taken b h.
      let t = c.args.table.now in
      let s = c.args.steps.now in
      let each = each_of t c.args.size in
      let first = c.args.first in (
        b,
        below_later (asked_of t c.args.size after) page taken (g.O.Sink.taken c.args.out.now) (x + each) (y + each * first) each s (x + each + t.spent) (y + t.spent + each * first) s first
            c.args.left.now (omega arith) h,
      );
  grown = λ few known. (known, few);
  spellings = refl;
  told = refl;
  faults = refl;
}

pub loop-m-preserved : goal.loop-m-preserved
loop-m-preserved g c =
    let l = c.loop-m in
    let t = c.args.table.now in
    record {
      some = omega arith;
      most = let test = c.loop-m-test.true in omega (arith, test);
      room = c.list_size.ensures.room ∙ l.invariant.room;
      left = c.in_default.ensures.left;
      kept = keeps_on t l.table c.list_size.new.table l.invariant.kept c.list_size.ensures.kept;
      comes = λ after page taken h.
          at_smaller t l.table c.args.size after (l.m + 1) page c.list_size.new.left taken (g.O.Sink.taken c.list_size.new.out) l.invariant.kept
          (c.in_default.ensures.goes_on c.args.size after page taken c.loop-m-test.true
          (at_grown t l.table c.args.size after l.m page l.left taken (g.O.Sink.taken l.out) l.invariant.kept (l.invariant.comes after page taken h)));
      costs = λ x y after page taken b h.
          let size = c.args.size in
          let each = each_of t size in
          let last = c.list_size.new.table in
          let kept = l.invariant.kept in
          let same = same_asked t l.table size after kept in
          let so = l.invariant.costs x y after page taken b h in
          let x1 = x + each + t.spent in
          let y1 = y + l.table.spent + each * l.m in
          let now = g.O.Sink.taken c.list_size.new.out in
          let s = c.list_size.new.steps in
          let begin = subst (λ a. IsDoneBelow a (IsWrittenFor taken (g.O.Sink.taken l.out) x1 y1 each l.steps) page l.m l.left) (sym same) so.1 in
          let costs = same_each t l.table size l.lister.room kept l.invariant.room in
          let most = same_most t l.table kept in
          let below = c.in_default.ensures.costs size x1 y1 each (group_total t * (t.limit + 1)) after page taken c.loop-m-test.true (omega (arith, costs)) (omega (arith, most)) so.0 begin in
          let more = one_size each l.m in (
            behind_more (asked_of t size after) l.m so.0,
            below_later (asked_of t size after) page taken now (x1 + l.table.spent) (y1 + last.spent + each) each s x1 (y + last.spent + each * (l.m + 1)) s (l.m + 1) c.list_size.new.left
                (omega (arith, more))
                (subst (λ a. IsDoneBelow a (IsWrittenFor taken now (x1 + l.table.spent) (y1 + last.spent + each) each s) page (l.m + 1) c.list_size.new.left) same below),
          );
      grown = λ few known.
          let so = l.invariant.grown few known in
          let next = c.in_default.ensures.grown in
          let test = c.loop-m-test.true in (
            omega (arith, next),
            let small = so.1 in omega (arith, next, small, test),
          );
      spellings = c.list_size.ensures.spellings ∙ l.invariant.spellings;
      told = c.list_size.ensures.told ∙ l.invariant.told;
      faults = c.in_default.ensures.cause ∙ l.invariant.faults;
    }

pub returns-clause-ends : goal.returns-clause-ends
returns-clause-ends g c = λ after page taken h.
    let l = c.loop-m in
    let over : l.m ≡ c.args.size + 1 = let test = c.loop-m-test.false in let most = l.invariant.most in omega (arith, test, most) in
    whole c.args.table.now c.args.size after page l.left taken (g.O.Sink.taken l.out)
    (subst (λ m. IsAtSize c.args.table.now c.args.size after m page l.left taken (g.O.Sink.taken l.out)) over (l.invariant.comes after page taken h))

pub returns-clause-kept : goal.returns-clause-kept
returns-clause-kept g c = c.loop-m.invariant.kept

pub returns-in-Err-clause-costs : goal.returns-in-Err-clause-costs
returns-in-Err-clause-costs g c = λ x y after page taken b h.
    let l = c.loop-m in
    let t = c.args.table.now in
    let size = c.args.size in
    let each = each_of t size in
    let limit = group_total t * (t.limit + 1) in
    let kept = l.invariant.kept in
    let same = same_asked t l.table size after kept in
    let so = l.invariant.costs x y after page taken b h in
    let x1 = x + each + t.spent in
    let y1 = y + l.table.spent + each * l.m in
    let now = g.O.Sink.taken c.list_size.new.out in
    let s = c.list_size.new.steps in
    let begin = subst (λ a. IsDoneBelow a (IsWrittenFor taken (g.O.Sink.taken l.out) x1 y1 each l.steps) page l.m l.left) (sym same) so.1 in
    let costs = same_each t l.table size l.lister.room kept l.invariant.room in
    let most = same_most t l.table kept in
    let cost = c.in-Err.ensures.costs size x1 y1 each limit after page taken c.loop-m-test.true (omega (arith, costs)) (omega (arith, most)) so.0 begin in
    let few = few_sizes each l.m size c.loop-m-test.true in
    cost_later (asked_of t size after) page taken now (x1 + l.table.spent) (y1 + limit + each) each s (x + t.spent) (y + limit + each * size) s (omega (arith, few))
    (subst (λ a. HasCost taken now (x1 + l.table.spent) (y1 + limit + each) each s a page) same cost)

pub returns-clause-costs : goal.returns-clause-costs
returns-clause-costs g c = λ x y after page taken b h.
    let l = c.loop-m in
    let t = c.args.table.now in
    let size = c.args.size in
    let each = each_of t size in
    let limit = group_total t * (t.limit + 1) in
    let over : l.m ≡ size + 1 = let test = c.loop-m-test.false in let most = l.invariant.most in omega (arith, test, most) in
    let small = spent_small t l.table l.invariant.kept c.holds.ensures in
    let all : each * l.m ≡ each * size + each = ap (λ k. each * k) over ∙ one_size each size in
    let so = l.invariant.costs x y after page taken b h in
    let x1 = x + each + t.spent in
    let y1 = y + l.table.spent + each * l.m in
    let now = g.O.Sink.taken l.out in
    cost_later (asked_of t size after) page taken now x1 y1 each l.steps (x + t.spent) (y + limit + each * size) l.steps (omega (arith, small, all))
    (cost_below (asked_of t size after) page taken now x1 y1 each l.steps l.m l.left so.1)

pub returns-in-Err-clause-whole : goal.returns-in-Err-clause-whole
returns-in-Err-clause-whole g c = λ x y after page taken b h is. absurd (subst IsCut is c.in-Err.ensures.cut)

pub returns-clause-whole : goal.returns-clause-whole
returns-clause-whole g c = λ x y after page taken b h is.
    let l = c.loop-m in
    let t = c.args.table.now in
    let size = c.args.size in
    let each = each_of t size in
    let over : l.m ≡ size + 1 = let test = c.loop-m-test.false in let most = l.invariant.most in omega (arith, test, most) in
    let all : each * l.m ≡ each * size + each = ap (λ k. each * k) over ∙ one_size each size in
    let so = l.invariant.costs x y after page taken b h in
    let x1 = x + each + t.spent in
    let y1 = y + l.table.spent + each * l.m in
    let now = g.O.Sink.taken l.out in
    cost_later (asked_of t size after) page taken now x1 y1 each l.steps (x + t.spent) (y + l.table.spent + each * size) l.steps (omega (arith, all))
    (cost_below (asked_of t size after) page taken now x1 y1 each l.steps l.m l.left so.1)

pub returns-in-Err-clause-grown : goal.returns-in-Err-clause-grown
returns-in-Err-clause-grown g c = λ few known is. absurd (subst IsCut is c.in-Err.ensures.cut)

pub returns-clause-grown : goal.returns-clause-grown
returns-clause-grown g c = λ few known is.
    let so = c.loop-m.invariant.grown few known in
    let low = so.0 in
    let high = so.1 in
    let test = c.loop-m-test.false in
    omega (arith, low, high, test)
