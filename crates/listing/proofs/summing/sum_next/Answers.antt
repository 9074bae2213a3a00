use Rattle.std.proofs.Common.{◌+◌, ◌++◌, ◌∷◌, [], arith, sym, subst, ◌∙◌, length, None}
use Rattle.std.specs.Prelude.{map}
use Rattle.skeleton.specs.Views.{code_of}
use Rattle.event_lines.specs.Coded.{IsMeasure}
use Rattle.rng_model.specs.Events.{events}
use Rattle.rng_model.specs.Codes.{AreCodes}
use Rattle.listing.specs.Progress.{asked_of}
use Rattle.listing.specs.Doing.{IsDoneBelow}
use Rattle.listing.specs.Summing.{IsSum}
use Rattle.listing.proofs.Steps.{not_true, codes_in_range, same_lists, text_is, fewer_left}
use Rattle.listing.proofs.Sums.{next_one, size_done, all_done, done_with, ready_again, below_so, sum_more, sum_later}
use Rattle.listing.proofs.summing.sum_next.Goals as goal

pub returns-then-not-next-clause-sums : goal.returns-then-not-next-clause-sums
returns-then-not-next-clause-sums g c = λ n x y each page l h.
    let t = c.args.table.now in
    let w = c.args.lister.now in
    let a = asked_of t n None in
    let totals = c.args.tally.now in
    let left = c.args.left.now in
    let s = c.args.steps.now in
    let s1 = c.next.new.steps in
    let ticks = c.next.ensures.ticks in
    let below = size_done t n None (IsSum totals x y each s) page w left c.next.new.self.stage h c.next.ensures.documents
    (λ one. not_true c.next.result c.if-not-next.true (c.next.ensures.found.1 one)) in
    subst (λ m. IsDoneBelow a (IsSum totals x (y + each) each s1) page (m + 1) left) (sym c.next.ensures.same.1)
    (below_so a (IsSum totals x y each s) (IsSum totals x (y + each) each s1) page (w.size + 1) left
    (λ front k. sum_later totals x y each s x (y + each) s1 front (omega (arith, ticks, l)) k) below)

pub measure-measured-requires : goal.measure-measured-requires
measure-measured-requires g c =
    codes_in_range c.args.table.now c.universe.result.now c.atoms.result.now c.universe.ensures c.atoms.ensures c.next.new.self.size c.next.new.self.stage
    c.codes.result.now c.next.ensures.own c.codes.ensures

pub returns-then-fills-clause-sums : goal.returns-then-fills-clause-sums
returns-then-fills-clause-sums g c = λ n x y each page l h.
    let t = c.args.table.now in
    let w = c.args.lister.now in
    let a = asked_of t n None in
    let totals = c.args.tally.now in
    let now = c.counted.new.self in
    let left = c.args.left.now in
    let s = c.args.steps.now in
    let s1 = c.next.new.steps in
    let ticks = c.next.ensures.ticks in
    let codes = map code_of c.codes.result.now in
    let d = next_one t n None (IsSum totals x y each s) page w left c.next.new.self.stage codes h c.next.ensures.documents c.codes.ensures in
    let are = subst (λ k. AreCodes k (events d.document) codes) (sym (same_lists t c.universe.result.now c.atoms.result.now c.universe.ensures c.atoms.ensures)) d.coded in
    let measured = subst (IsMeasure c.measure-measured.result) (text_is d.document) (c.measure-measured.ensures (events d.document) are) in
    let tally = c.counted.ensures d.front d.document d.done.tally (d.exact ∙ c.requires.size) measured in
    let sum = sum_more totals now x y each s s1 d.front d.document d.done tally (omega (arith, ticks, l)) in
    all_done a (IsSum totals x y each s) page w.size left codes d (IsSum now x (y + each) each s1) h.fits
    (sum_later now x y each s1 x (y + each) s1 (d.front ++ (d.document ∷ [])) (omega arith) sum) (c.fills.ensures.full page (length d.front) d.room c.if-fills.true)

pub returns-clause-sums : goal.returns-clause-sums
returns-clause-sums g c = λ n x y each page l h.
    let t = c.args.table.now in
    let w = c.args.lister.now in
    let v = c.next.new.self in
    let a = asked_of t n None in
    let totals = c.args.tally.now in
    let now = c.counted.new.self in
    let left = c.args.left.now in
    let rest = c.fills.new.left in
    let s = c.args.steps.now in
    let s1 = c.next.new.steps in
    let ticks = c.next.ensures.ticks in
    let codes = map code_of c.codes.result.now in
    let d = next_one t n None (IsSum totals x y each s) page w left v.stage codes h c.next.ensures.documents c.codes.ensures in
    let are = subst (λ k. AreCodes k (events d.document) codes) (sym (same_lists t c.universe.result.now c.atoms.result.now c.universe.ensures c.atoms.ensures)) d.coded in
    let measured = subst (IsMeasure c.measure-measured.result) (text_is d.document) (c.measure-measured.ensures (events d.document) are) in
    let tally = c.counted.ensures d.front d.document d.done.tally (d.exact ∙ c.requires.size) measured in
    let sum = sum_more totals now x y each s s1 d.front d.document d.done tally (omega (arith, ticks, l)) in
    ready_again t n None (IsSum totals x y each s) (IsSum now x y each s1) page w v left rest c.next.ensures.same.1 h
    (done_with a (IsSum totals x y each s) page w.size left codes d (IsSum now x y each s1) rest v.stage c.codes.ensures sum
    (c.fills.ensures.more page (length d.front) d.room c.if-fills.false))

pub returns-clause-fewer : goal.returns-clause-fewer
returns-clause-fewer g c = λ e.
    fewer_left c.args.table.now c.holds.ensures c.args.lister.now c.next.new.self c.next.ensures.same.1 c.requires.own c.next.ensures.own c.next.ensures.step
    (c.next.ensures.found.0 c.if-not-next.false)
