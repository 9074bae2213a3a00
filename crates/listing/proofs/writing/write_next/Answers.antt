use Rattle.std.proofs.Common.{◌+◌, refl, sym, subst, ◌∙◌, length, take, arith}
use Rattle.std.specs.Prelude.{map}
use Rattle.skeleton.specs.Views.{code_of}
use Rattle.std.specs.Io.KnownBytes.{Appends}
use Rattle.outside.specs.Devices.{AppendsFront}
use Rattle.rng_model.specs.Events.{events}
use Rattle.feasibility.specs.Tables.{lists}
use Rattle.event_lines.specs.Held.{BeginsWith}
use Rattle.listing.specs.Progress.{asked_of, IsWrittenBelow}
use Rattle.listing.specs.Costs.{IsWrittenFor}
use Rattle.listing.specs.Doing.{IsDoneBelow}
use Rattle.listing.proofs.Sums as sums
use Rattle.listing.proofs.Costs.{below_later, cost_cut, cost_full, written_more}
use Rattle.listing.proofs.Steps.{size_written, not_true, codes_in_range, coming, begun, ended, written, failed, went, text_is, ready_again, fewer_left}
use Rattle.listing.proofs.Held.{begins_held, held_at, held_past}
use Rattle.listing.proofs.writing.write_next.Goals as goal

pub returns-then-not-next-clause-advances : goal.returns-then-not-next-clause-advances
returns-then-not-next-clause-advances g c = λ n after page taken h.
    let t = c.args.table.now in
    let w = c.args.lister.now in
    let out = g.O.Sink.taken c.args.out.now in
    let below = size_written t n after w page c.args.left.now taken out c.next.new.self.stage h c.next.ensures.documents
    (λ one. not_true c.next.result c.if-not-next.true (c.next.ensures.found.1 one)) in
    subst (λ m. IsWrittenBelow (asked_of t n after) page (m + 1) c.args.left.now taken out) (sym c.next.ensures.same.1) below

pub write-requires-clause-spelled : goal.write-requires-clause-spelled
write-requires-clause-spelled g c =
    let t = c.args.table.now in
    let below = codes_in_range t t.universe t.atoms refl refl c.next.new.self.size c.next.new.self.stage c.codes.result.now c.next.ensures.own c.codes.ensures in
    record { lists = lists t; spelled = c.requires.spelled; in_range = below }

pub write-requires-clause-unchanged : goal.write-requires-clause-unchanged
write-requires-clause-unchanged g c =
    let held = c.args.lines.now.codes in
    let codes = map code_of c.codes.result.now in
    let w = c.args.lister.now in
    let v = c.next.new.self in
    subst (λ k. BeginsWith codes (take k held)) (sym c.unchanged-unchanged.ensures)
    (begins_held c.args.table.now w.size w.stage v.stage v.unchanged held codes c.next.ensures.documents c.requires.held c.next.ensures.unchanged c.codes.ensures)

pub returns-then-not-next-clause-held : goal.returns-then-not-next-clause-held
returns-then-not-next-clause-held g c =
    held_past c.next.new.self.stage c.args.lines.now.codes (λ one. not_true c.next.result c.if-not-next.true (c.next.ensures.found.1 one))

pub returns-then-is_err-clause-held : goal.returns-then-is_err-clause-held
returns-then-is_err-clause-held g c = held_at c.next.new.self.stage (map code_of c.codes.result.now) c.write.new.self.codes c.codes.ensures c.write.ensures.held

pub returns-then-fills-clause-held : goal.returns-then-fills-clause-held
returns-then-fills-clause-held g c = held_at c.next.new.self.stage (map code_of c.codes.result.now) c.write.new.self.codes c.codes.ensures c.write.ensures.held

pub returns-clause-held : goal.returns-clause-held
returns-clause-held g c = held_at c.next.new.self.stage (map code_of c.codes.result.now) c.write.new.self.codes c.codes.ensures c.write.ensures.held

pub returns-then-is_err-clause-advances : goal.returns-then-is_err-clause-advances
returns-then-is_err-clause-advances g c = λ n after page taken h.
    let t = c.args.table.now in
    let w = c.args.lister.now in
    let old = g.O.Sink.taken c.args.out.now in
    let new = g.O.Sink.taken c.write.new.sink in
    let codes = map code_of c.codes.result.now in
    let left = c.args.left.now in
    let d = coming t n after w page left taken old c.next.new.self.stage codes h c.next.ensures.documents c.codes.ensures in
    let front = failed c.write.result (sym c.is_err.ensures.value ∙ c.if-is_err.true) (c.write.ensures.err (lists t) (events d.document) c.requires.spelled d.coded) in
    begun (asked_of t n after) page w.size left taken old codes d h.fits new (subst (AppendsFront old new) (text_is d.document) front)

pub returns-then-fills-clause-advances : goal.returns-then-fills-clause-advances
returns-then-fills-clause-advances g c = λ n after page taken h.
    let t = c.args.table.now in
    let w = c.args.lister.now in
    let old = g.O.Sink.taken c.args.out.now in
    let new = g.O.Sink.taken c.write.new.sink in
    let codes = map code_of c.codes.result.now in
    let left = c.args.left.now in
    let d = coming t n after w page left taken old c.next.new.self.stage codes h c.next.ensures.documents c.codes.ensures in
    let all = went c.write.result (sym c.is_err.ensures.value ∙ c.if-is_err.false) (c.write.ensures.ok (lists t) (events d.document) c.requires.spelled d.coded) in
    ended (asked_of t n after) page w.size left taken old codes d h.fits new (subst (Appends old new) (text_is d.document) all)
    (c.fills.ensures.full page (length d.front) d.room c.if-fills.true)

pub returns-clause-advances : goal.returns-clause-advances
returns-clause-advances g c = λ n after page taken h.
    let t = c.args.table.now in
    let w = c.args.lister.now in
    let v = c.next.new.self in
    let old = g.O.Sink.taken c.args.out.now in
    let new = g.O.Sink.taken c.write.new.sink in
    let codes = map code_of c.codes.result.now in
    let left = c.args.left.now in
    let rest = c.fills.new.left in
    let d = coming t n after w page left taken old v.stage codes h c.next.ensures.documents c.codes.ensures in
    let all = went c.write.result (sym c.is_err.ensures.value ∙ c.if-is_err.false) (c.write.ensures.ok (lists t) (events d.document) c.requires.spelled d.coded) in
    ready_again t n after w v page left rest taken old new c.next.ensures.same.1 h
    (written (asked_of t n after) page w.size left taken old codes d new rest v.stage c.codes.ensures (subst (Appends old new) (text_is d.document) all)
    (c.fills.ensures.more page (length d.front) d.room c.if-fills.false))

pub returns-clause-fewer : goal.returns-clause-fewer
returns-clause-fewer g c = λ e.
    fewer_left c.args.table.now c.holds.ensures c.args.lister.now c.next.new.self c.next.ensures.same.1 c.requires.own c.next.ensures.own c.next.ensures.step
    (c.next.ensures.found.0 c.if-not-next.false)

pub returns-then-not-next-clause-costs : goal.returns-then-not-next-clause-costs
returns-then-not-next-clause-costs g c = λ n x y each after page taken l h.
    let t = c.args.table.now in
    let w = c.args.lister.now in
    let v = c.next.new.self in
    let a = asked_of t n after in
    let left = c.args.left.now in
    let s = c.args.steps.now in
    let s1 = c.next.new.steps in
    let ticks = c.next.ensures.ticks in
    let old = g.O.Sink.taken c.args.out.now in
    let below = sums.size_done t n after (IsWrittenFor taken old x y each s) page w left v.stage h c.next.ensures.documents
    (λ one. not_true c.next.result c.if-not-next.true (c.next.ensures.found.1 one)) in
    subst (λ m. IsDoneBelow a (IsWrittenFor taken old x (y + each) each s1) page (m + 1) left) (sym c.next.ensures.same.1)
    (below_later a page taken old x y each s x (y + each) s1 (w.size + 1) left (omega (arith, ticks, l)) below)

pub returns-then-is_err-clause-costs : goal.returns-then-is_err-clause-costs
returns-then-is_err-clause-costs g c = λ n x y each after page taken l h.
    let t = c.args.table.now in
    let w = c.args.lister.now in
    let v = c.next.new.self in
    let a = asked_of t n after in
    let left = c.args.left.now in
    let s = c.args.steps.now in
    let s1 = c.next.new.steps in
    let ticks = c.next.ensures.ticks in
    let old = g.O.Sink.taken c.args.out.now in
    let new = g.O.Sink.taken c.write.new.sink in
    let codes = map code_of c.codes.result.now in
    let d = sums.next_one t n after (IsWrittenFor taken old x y each s) page w left v.stage codes h c.next.ensures.documents c.codes.ensures in
    let front = failed c.write.result (sym c.is_err.ensures.value ∙ c.if-is_err.true) (c.write.ensures.err (lists t) (events d.document) c.requires.spelled d.coded) in
    cost_cut a page taken old x y each s w.size left codes d new s1 (omega (arith, ticks, l)) h.fits (subst (AppendsFront old new) (text_is d.document) front)

pub returns-then-fills-clause-costs : goal.returns-then-fills-clause-costs
returns-then-fills-clause-costs g c = λ n x y each after page taken l h.
    let t = c.args.table.now in
    let w = c.args.lister.now in
    let v = c.next.new.self in
    let a = asked_of t n after in
    let left = c.args.left.now in
    let s = c.args.steps.now in
    let s1 = c.next.new.steps in
    let ticks = c.next.ensures.ticks in
    let old = g.O.Sink.taken c.args.out.now in
    let new = g.O.Sink.taken c.write.new.sink in
    let codes = map code_of c.codes.result.now in
    let d = sums.next_one t n after (IsWrittenFor taken old x y each s) page w left v.stage codes h c.next.ensures.documents c.codes.ensures in
    let all = went c.write.result (sym c.is_err.ensures.value ∙ c.if-is_err.false) (c.write.ensures.ok (lists t) (events d.document) c.requires.spelled d.coded) in
    cost_full a page taken old x y each s w.size left codes d new s1 (omega (arith, ticks, l)) h.fits (subst (Appends old new) (text_is d.document) all)

pub returns-clause-costs : goal.returns-clause-costs
returns-clause-costs g c = λ n x y each after page taken l h.
    let t = c.args.table.now in
    let w = c.args.lister.now in
    let v = c.next.new.self in
    let a = asked_of t n after in
    let left = c.args.left.now in
    let s = c.args.steps.now in
    let s1 = c.next.new.steps in
    let ticks = c.next.ensures.ticks in
    let old = g.O.Sink.taken c.args.out.now in
    let new = g.O.Sink.taken c.write.new.sink in
    let codes = map code_of c.codes.result.now in
    let d = sums.next_one t n after (IsWrittenFor taken old x y each s) page w left v.stage codes h c.next.ensures.documents c.codes.ensures in
    let rest = c.fills.new.left in
    let before = IsWrittenFor taken old x y each s in
    let now = IsWrittenFor taken new x y each s1 in
    let all = went c.write.result (sym c.is_err.ensures.value ∙ c.if-is_err.false) (c.write.ensures.ok (lists t) (events d.document) c.requires.spelled d.coded) in
    let more = written_more a page taken old x y each s w.size left codes d new s1 (omega (arith, ticks, l)) (subst (Appends old new) (text_is d.document) all) in
    sums.ready_again t n after before now page w v left rest c.next.ensures.same.1 h
    (sums.done_with a before page w.size left codes d now rest v.stage c.codes.ensures more (c.fills.ensures.more page (length d.front) d.room c.if-fills.false))
