use Rattle.std.proofs.Common.{◌+◌, ◌≤◌, ap, sym, subst, ◌∙◌, None}
use Rattle.std.specs.Prelude.{Ok, IfErr}
use Rattle.listing.specs.Progress.{asked_of}
use Rattle.listing.specs.Endings.{IsCut}
use Rattle.listing.specs.Doing.{IsDoneBelow}
use Rattle.listing.specs.Summing.{IsSum, SumsOn, SumsTo, each_of}
use Rattle.listing.proofs.Steps.{passed_on}
use Rattle.listing.proofs.summing.sum_size.Goals as goal

pub loop-smaller : goal.loop-smaller
loop-smaller g c = c.in_ok-sum_next.ensures.fewer (ap Ok c.if-branch.true)

pub loop-preserved : goal.loop-preserved
loop-preserved g c = record {
  set = c.sum_next.ensures.set;
  own = c.sum_next.ensures.own;
  room = c.sum_next.ensures.same.0 ∙ c.loop.invariant.room;
  size = c.sum_next.ensures.same.1 ∙ c.loop.invariant.size;
  some = c.in_ok-sum_next.ensures.left;
  ready = λ n x y each page k h.
      let t = c.args.table.now in
      let l = c.loop in
      subst (λ b. SumsOn t n page c.sum_next.new.lister c.sum_next.new.left c.sum_next.new.tally x y each c.sum_next.new.steps (Ok b)) c.if-branch.true
      (c.in_ok-sum_next.ensures.sums n x y each page (subst (λ r. each_of t r ≤ each) (sym l.invariant.room) k) (l.invariant.ready n x y each page k h));
}

pub returns-in_err-sum_next-clause-sums : goal.returns-in_err-sum_next-clause-sums
returns-in_err-sum_next-clause-sums g c = λ n x y each page k h.
    let t = c.args.table.now in
    let l = c.loop in
    let sum = IsSum c.sum_next.new.tally x (y + each) each c.sum_next.new.steps in
    subst (SumsTo t n page (c.args.size + 1) c.sum_next.new.left sum sum)
    (sym (passed_on c.from_residual.result c.in_err-sum_next.field-0.0 c.from_residual.ensures.1))
    (c.in_err-sum_next.ensures.sums n x y each page (subst (λ r. each_of t r ≤ each) (sym l.invariant.room) k) (l.invariant.ready n x y each page k h))

pub returns-clause-sums : goal.returns-clause-sums
returns-clause-sums g c = λ n x y each page k h.
    let t = c.args.table.now in
    let l = c.loop in
    let below = subst (λ b. SumsOn t n page c.sum_next.new.lister c.sum_next.new.left c.sum_next.new.tally x y each c.sum_next.new.steps (Ok b)) c.if-branch.false
    (c.in_ok-sum_next.ensures.sums n x y each page (subst (λ r. each_of t r ≤ each) (sym l.invariant.room) k) (l.invariant.ready n x y each page k h)) in
    subst (λ m. IsDoneBelow (asked_of t n None) (IsSum c.sum_next.new.tally x (y + each) each c.sum_next.new.steps) page (m + 1) c.sum_next.new.left)
    (c.sum_next.ensures.same.1 ∙ l.invariant.size) below

pub returns-in_err-sum_next-clause-cut : goal.returns-in_err-sum_next-clause-cut
returns-in_err-sum_next-clause-cut g c =
    subst (λ r. IfErr r IsCut) (sym (passed_on c.from_residual.result c.in_err-sum_next.field-0.0 c.from_residual.ensures.1)) c.in_err-sum_next.ensures.cut
