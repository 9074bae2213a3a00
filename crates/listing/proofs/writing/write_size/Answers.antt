use Rattle.std.proofs.Common.{◌+◌, ◌≤◌, ap, sym, subst, ◌∙◌}
use Rattle.std.specs.Prelude.{Bool, Ok, Err, IfErr}
use Rattle.listing.specs.Progress.{asked_of, IsWrittenBelow}
use Rattle.listing.specs.Endings.{Advances, Completes, IsCut, HasCauseIn}
use Rattle.listing.specs.Doing.{IsDoneBelow}
use Rattle.listing.specs.Summing.{each_of}
use Rattle.listing.specs.Costs.{IsWrittenFor, CostsOn, CostsTo}
use Rattle.listing.proofs.Steps.{passed_on}
use Rattle.listing.proofs.writing.write_size.Goals as goal

pub loop-smaller : goal.loop-smaller
loop-smaller g c = c.in_ok-write_next.ensures.fewer (ap Ok c.if-branch.true)

pub loop-preserved : goal.loop-preserved
loop-preserved g c = record {
  set = c.write_next.ensures.set;
  own = c.write_next.ensures.own;
  room = c.write_next.ensures.same.0 ∙ c.loop.invariant.room;
  size = c.write_next.ensures.same.1 ∙ c.loop.invariant.size;
  some = c.in_ok-write_next.ensures.left;
  ready = λ n after page taken h.
      subst (λ b. Advances c.args.table.now n after c.write_next.new.lister page c.write_next.new.left taken (g.O.Sink.taken c.write_next.new.out) (Ok b)) c.if-branch.true
      (c.in_ok-write_next.ensures.advances n after page taken (c.loop.invariant.ready n after page taken h));
  costs = λ n x y each after page taken k h.
      let t = c.args.table.now in
      let l = c.loop in
      subst (λ b. CostsOn t n after page taken (g.O.Sink.taken c.write_next.new.out) x y each c.write_next.new.steps c.write_next.new.lister c.write_next.new.left (Ok b)) c.if-branch.true
      (c.in_ok-write_next.ensures.costs n x y each after page taken (subst (λ r. each_of t r ≤ each) (sym l.invariant.room) k) (l.invariant.costs n x y each after page taken k h));
  spellings = c.write_next.ensures.spellings ∙ c.loop.invariant.spellings;
  held = c.write_next.ensures.held;
  told = c.write_next.ensures.told ∙ c.loop.invariant.told;
  faults = c.in_ok-write_next.ensures.cause ∙ c.loop.invariant.faults;
}

pub returns-in_err-write_next-clause-completes : goal.returns-in_err-write_next-clause-completes
returns-in_err-write_next-clause-completes g c = λ n after page taken h.
    subst (Completes c.args.table.now n after c.args.lister.now page c.write_next.new.left taken (g.O.Sink.taken c.write_next.new.out))
    (sym (passed_on c.from_residual.result c.in_err-write_next.field-0.0 c.from_residual.ensures.1))
    (c.in_err-write_next.ensures.advances n after page taken (c.loop.invariant.ready n after page taken h))

pub returns-in_err-write_next-clause-cause : goal.returns-in_err-write_next-clause-cause
returns-in_err-write_next-clause-cause g c =
    subst (HasCauseIn {A = Unit {0}} (g.O.Sink.faults c.args.out.now) (g.O.Sink.faults c.write_next.new.out))
    (sym (passed_on c.from_residual.result c.in_err-write_next.field-0.0 c.from_residual.ensures.1))
    (subst (λ f. HasCauseIn {A = Bool} f (g.O.Sink.faults c.write_next.new.out) (Err c.in_err-write_next.field-0.0)) c.loop.invariant.faults c.in_err-write_next.ensures.cause)

pub returns-clause-completes : goal.returns-clause-completes
returns-clause-completes g c = λ n after page taken h.
    let now = g.O.Sink.taken c.write_next.new.out in
    let left = c.write_next.new.left in
    let below = subst (λ b. Advances c.args.table.now n after c.write_next.new.lister page left taken now (Ok b)) c.if-branch.false
    (c.in_ok-write_next.ensures.advances n after page taken (c.loop.invariant.ready n after page taken h)) in
    subst (λ m. IsWrittenBelow (asked_of c.args.table.now n after) page (m + 1) left taken now) (c.write_next.ensures.same.1 ∙ c.loop.invariant.size) below

pub returns-in_err-write_next-clause-costs : goal.returns-in_err-write_next-clause-costs
returns-in_err-write_next-clause-costs g c = λ n x y each after page taken k h.
    let t = c.args.table.now in
    let l = c.loop in
    subst (CostsTo t n after page taken (g.O.Sink.taken c.write_next.new.out) x (y + each) each c.write_next.new.steps (y + each) (c.args.lister.now.size + 1) c.write_next.new.left)
    (sym (passed_on c.from_residual.result c.in_err-write_next.field-0.0 c.from_residual.ensures.1))
    (c.in_err-write_next.ensures.costs n x y each after page taken (subst (λ r. each_of t r ≤ each) (sym l.invariant.room) k) (l.invariant.costs n x y each after page taken k h))

pub returns-clause-costs : goal.returns-clause-costs
returns-clause-costs g c = λ n x y each after page taken k h.
    let t = c.args.table.now in
    let l = c.loop in
    let now = g.O.Sink.taken c.write_next.new.out in
    let left = c.write_next.new.left in
    let steps = c.write_next.new.steps in
    let below = subst (λ b. CostsOn t n after page taken now x y each steps c.write_next.new.lister left (Ok b)) c.if-branch.false
    (c.in_ok-write_next.ensures.costs n x y each after page taken (subst (λ r. each_of t r ≤ each) (sym l.invariant.room) k) (l.invariant.costs n x y each after page taken k h)) in
    subst (λ m. IsDoneBelow (asked_of t n after) (IsWrittenFor taken now x (y + each) each steps) page (m + 1) left) (c.write_next.ensures.same.1 ∙ l.invariant.size) below

pub returns-in_err-write_next-clause-cut : goal.returns-in_err-write_next-clause-cut
returns-in_err-write_next-clause-cut g c =
    subst (λ r. IfErr r IsCut) (sym (passed_on c.from_residual.result c.in_err-write_next.field-0.0 c.from_residual.ensures.1)) c.in_err-write_next.ensures.cut
