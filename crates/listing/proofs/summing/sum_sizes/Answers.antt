use Rattle.std.proofs.Common.{◌≡◌, ◌+◌, ◌*◌, arith, sym, subst, ◌∙◌, None}
use Rattle.feasibility.specs.Tables.{group_total}
use Rattle.listing_laws.specs.Pending.{Ending}
use Rattle.listing.specs.Progress.{asked_of}
use Rattle.listing.specs.Endings.{IsCut}
use Rattle.listing.specs.Doing.{IsDoneBelow, EndsDone}
use Rattle.listing.specs.Summing.{IsSum, each_of}
use Rattle.listing.proofs.FromSizeToSize.{same_asked, keeps_itself, keeps_on}
use Rattle.listing.proofs.StateLines.{spent_small}
use Rattle.listing.proofs.Sums.{whole, whole_so, ends_so, below_so, sum_later, same_each, same_most, few_sizes, one_size}
use Rattle.listing.proofs.summing.sum_sizes.Goals as goal

pub loop-done-init : goal.loop-done-init
loop-done-init g c = record {
  most = omega arith;
  room = c.requires.room;
  some = c.requires.some;
  kept = keeps_itself c.args.table.now;
  grown = λ few. (omega arith, few);
  sums = λ x y page h.
      let t = c.args.table.now in
      let totals = c.args.tally.now in
      let s = c.args.steps.now in
      let each = each_of t c.args.size in
      below_so (asked_of t c.args.size None) (IsSum totals x y each s) (IsSum totals (x + t.spent) (y + t.spent + each * 0) each s) page 1 c.args.left.now
      (λ front q. sum_later totals x y each s (x + t.spent) (y + t.spent + each * 0) s front (omega arith) q) h;
}

pub loop-done-preserved : goal.loop-done-preserved
loop-done-preserved g c =
    let l = c.loop-done in
    let t = c.args.table.now in
    let size = c.args.size in
    let each = each_of t size in
    let last = c.sum_grown.new.table in
    record {
      most = let test = c.loop-done-test.true in omega (arith, test);
      room = c.sum_grown.ensures.room ∙ l.invariant.room;
      some = c.in_default.ensures.left;
      kept = keeps_on t l.table last l.invariant.kept c.sum_grown.ensures.kept;
      grown = λ few.
          let so = l.invariant.grown few in
          let next = c.in_default.ensures.grown in
          let test = c.loop-done-test.true in (
            omega (arith, next),
            let small = so.1 in omega (arith, next, small, test),
          );
      sums = λ x y page h.
          let kept = l.invariant.kept in
          let same = same_asked t l.table size None kept in
          let x1 = x + t.spent in
          let y1 = y + l.table.spent + each * l.done in
          let totals = l.tally in
          let now = c.sum_grown.new.tally in
          let s = c.sum_grown.new.steps in
          let begin = subst (λ a. IsDoneBelow a (IsSum totals x1 y1 each l.steps) page (l.done + 1) l.left) (sym same) (l.invariant.sums x y page h) in
          let test = c.loop-done-test.true in
          let costs = same_each t l.table size l.lister.room kept l.invariant.room in
          let most = same_most t l.table kept in
          let below = c.in_default.ensures.sums size x1 y1 each (group_total t * (t.limit + 1)) page (omega (arith, test)) (omega (arith, costs)) (omega (arith, most)) begin in
          let more = one_size each l.done in
          below_so (asked_of t size None) (IsSum now (x1 + l.table.spent) (y1 + last.spent + each) each s) (IsSum now x1 (y + last.spent + each * (l.done + 1)) each s) page
          (l.done + 1 + 1) c.sum_grown.new.left
          (λ front q. sum_later now (x1 + l.table.spent) (y1 + last.spent + each) each s x1 (y + last.spent + each * (l.done + 1)) s front (omega (arith, more)) q)
          (subst (λ a. IsDoneBelow a (IsSum now (x1 + l.table.spent) (y1 + last.spent + each) each s) page (l.done + 1 + 1) c.sum_grown.new.left) same below);
    }

pub returns-in-Err-clause-sums : goal.returns-in-Err-clause-sums
returns-in-Err-clause-sums g c = λ x y page h.
    let l = c.loop-done in
    let t = c.args.table.now in
    let size = c.args.size in
    let each = each_of t size in
    let kept = l.invariant.kept in
    let same = same_asked t l.table size None kept in
    let x1 = x + t.spent in
    let y1 = y + l.table.spent + each * l.done in
    let totals = l.tally in
    let now = c.sum_grown.new.tally in
    let s = c.sum_grown.new.steps in
    let limit = group_total t * (t.limit + 1) in
    let begin = subst (λ a. IsDoneBelow a (IsSum totals x1 y1 each l.steps) page (l.done + 1) l.left) (sym same) (l.invariant.sums x y page h) in
    let test = c.loop-done-test.true in
    let costs = same_each t l.table size l.lister.room kept l.invariant.room in
    let most = same_most t l.table kept in
    let ends = c.in-Err.ensures.sums size x1 y1 each limit page (omega (arith, test)) (omega (arith, costs)) (omega (arith, most)) begin in
    let more = one_size each l.done in
    let few = few_sizes each (l.done + 1) size (omega (arith, test)) in
    ends_so (asked_of t size None) (IsSum now (x1 + l.table.spent) (y1 + limit + each) each s) (IsSum now x1 (y + limit + each * size) each s) page c.in-Err.end
    (λ front q. sum_later now (x1 + l.table.spent) (y1 + limit + each) each s x1 (y + limit + each * size) s front (omega (arith, more, few)) q)
    (subst (λ a. EndsDone a (IsSum now (x1 + l.table.spent) (y1 + limit + each) each s) page c.in-Err.end) same ends)

pub returns-clause-sums : goal.returns-clause-sums
returns-clause-sums g c = λ x y page h.
    let l = c.loop-done in
    let t = c.args.table.now in
    let size = c.args.size in
    let each = each_of t size in
    let limit = group_total t * (t.limit + 1) in
    let x1 = x + t.spent in
    let y1 = y + l.table.spent + each * l.done in
    let over : l.done ≡ size = let test = c.loop-done-test.false in let most = l.invariant.most in omega (arith, test, most) in
    let small = spent_small t l.table l.invariant.kept c.holds.ensures in
    let few = few_sizes each l.done size (omega (arith, over)) in
    whole_so (asked_of t size None) (IsSum l.tally x1 y1 each l.steps) (IsSum l.tally x1 (y + limit + each * size) each l.steps) page Ending.whole
    (λ front q. sum_later l.tally x1 y1 each l.steps x1 (y + limit + each * size) l.steps front (omega (arith, small, few)) q)
    (whole t size (IsSum l.tally x1 y1 each l.steps) page l.left
    (subst (λ m. IsDoneBelow (asked_of t size None) (IsSum l.tally x1 y1 each l.steps) page (m + 1) l.left) over (l.invariant.sums x y page h)))

pub returns-in-Err-clause-whole : goal.returns-in-Err-clause-whole
returns-in-Err-clause-whole g c = λ x y page h is. absurd (subst IsCut is c.in-Err.ensures.cut)

pub returns-clause-whole : goal.returns-clause-whole
returns-clause-whole g c = λ x y page h is.
    let l = c.loop-done in
    let t = c.args.table.now in
    let size = c.args.size in
    let each = each_of t size in
    let x1 = x + t.spent in
    let y1 = y + l.table.spent + each * l.done in
    let over : l.done ≡ size = let test = c.loop-done-test.false in let most = l.invariant.most in omega (arith, test, most) in
    let few = few_sizes each l.done size (omega (arith, over)) in
    whole_so (asked_of t size None) (IsSum l.tally x1 y1 each l.steps) (IsSum l.tally x1 (y + l.table.spent + each * size) each l.steps) page Ending.whole
    (λ front q. sum_later l.tally x1 y1 each l.steps x1 (y + l.table.spent + each * size) l.steps front (omega (arith, few)) q)
    (whole t size (IsSum l.tally x1 y1 each l.steps) page l.left
    (subst (λ m. IsDoneBelow (asked_of t size None) (IsSum l.tally x1 y1 each l.steps) page (m + 1) l.left) over (l.invariant.sums x y page h)))

pub returns-in-Err-clause-grown : goal.returns-in-Err-clause-grown
returns-in-Err-clause-grown g c = λ few is. absurd (subst IsCut is c.in-Err.ensures.cut)

pub returns-clause-grown : goal.returns-clause-grown
returns-clause-grown g c = λ few is.
    let so = c.loop-done.invariant.grown few in
    let low = so.0 in
    let high = so.1 in
    let test = c.loop-done-test.false in
    omega (arith, low, high, test)
