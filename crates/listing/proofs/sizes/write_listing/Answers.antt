use Rattle.std.proofs.Common.{◌+◌, ◌*◌, Option, Bor, option_map, arith, subst, sym}
use Rattle.skeleton.specs.declared.document.Skeleton.{Skeleton}
use Rattle.listing.specs.Progress.{asked_of}
use Rattle.listing.specs.Endings.{EndsAs, IsAtSize, IsCut}
use Rattle.event_lines.specs.Spelled.{AreSpellings}
use Rattle.feasibility.specs.Tables.{group_total, lists}
use Rattle.listing.specs.Doing.{IsDoneBelow}
use Rattle.listing.specs.Summing.{each_of}
use Rattle.listing.specs.Costs.{IsWrittenFor, HasCost}
use Rattle.listing.proofs.StateLines.{spent_small}
use Rattle.listing.proofs.Sums.{few_sizes}
use Rattle.listing.proofs.Costs.{below_later, cost_none, cost_later}
use Rattle.listing.proofs.FromSizeToSize.{lacks_all, at_start, keeps_itself}
use Rattle.listing.proofs.sizes.write_listing.Goals as goal

abbrev value_of : Option (Bor Skeleton) → Option Skeleton
value_of o = option_map (λ b. b.now) o

pub list_sizes-requires-clause-spelled : goal.list_sizes-requires-clause-spelled
list_sizes-requires-clause-spelled g c = subst (AreSpellings (lists c.args.table.now)) (sym c.resume.ensures.spellings) c.in-Ok.ensures.spelled

pub returns-in_default-clause-ends : goal.returns-in_default-clause-ends
returns-in_default-clause-ends g c = lacks_all c.args.table.now c.args.size (value_of c.args.after) c.args.page (g.O.Sink.taken c.args.out.now)

pub returns-in-Ok-resume-clause-ends : goal.returns-in-Ok-resume-clause-ends
returns-in-Ok-resume-clause-ends g c =
    let old = g.O.Sink.taken c.args.out.now in
    let page = c.args.page in
    let comes = c.in-Ok-resume.ensures.begins page old (at_start page old c.requires.page) in
    c.list_sizes.ensures.ends (value_of c.args.after) page old
    (subst (λ n. IsAtSize c.args.table.now n (value_of c.args.after) c.in-Ok-resume.first page c.resume.new.left old (g.O.Sink.taken c.resume.new.out)) c.in-Ok.ensures.room comes)

pub returns-clause-ends : goal.returns-clause-ends
returns-clause-ends g c =
    let old = g.O.Sink.taken c.args.out.now in
    let page = c.args.page in
    subst (λ n. EndsAs (asked_of c.args.table.now n (value_of c.args.after)) page old (g.O.Sink.taken c.resume.new.out) c.in-Err.end) c.in-Ok.ensures.room
    (c.in-Err.ensures.begins page old (at_start page old c.requires.page))

pub returns-in_default-clause-costs : goal.returns-in_default-clause-costs
returns-in_default-clause-costs g c =
    let t = c.args.table.now in
    let small = spent_small t t (keeps_itself t) c.holds.ensures in
    cost_none (asked_of t c.args.size (value_of c.args.after)) c.args.page (g.O.Sink.taken c.args.out.now) _ _ _ _ (omega (arith, small))

pub returns-in-Ok-resume-clause-costs : goal.returns-in-Ok-resume-clause-costs
returns-in-Ok-resume-clause-costs g c =
    let t = c.args.table.now in
    let old = g.O.Sink.taken c.args.out.now in
    let now = g.O.Sink.taken c.list_sizes.new.out in
    let page = c.args.page in
    let size = c.args.size in
    let each = each_of t size in
    let y = c.args.steps.now + 3 * size in
    let limit = group_total t * (t.limit + 1) in
    let first = c.in-Ok-resume.first in
    let start = at_start page old c.requires.page in
    let after = value_of c.args.after in
    let behind = (subst (λ n. IsAtSize t n after first page c.resume.new.left old (g.O.Sink.taken c.resume.new.out)) c.in-Ok.ensures.room (c.in-Ok-resume.ensures.begins page old start)).behind in
    let begin = subst (λ n. IsDoneBelow (asked_of t n after) (IsWrittenFor old (g.O.Sink.taken c.resume.new.out) (each_of t n) (c.args.steps.now + 3 * n + each_of t n * first) (each_of t n) c.resume.new.steps)
    page first c.resume.new.left) c.in-Ok.ensures.room (c.in-Ok-resume.ensures.costs page old start) in
    cost_later (asked_of t size after) page old now (0 + t.spent) (y + limit + each * size) each c.list_sizes.new.steps _ _ _ (omega arith)
    (c.list_sizes.ensures.costs 0 y after page old behind
    (below_later (asked_of t size after) page old (g.O.Sink.taken c.resume.new.out) each (y + each * first) each c.resume.new.steps (0 + each) (y + each * first) c.resume.new.steps first c.resume.new.left
    (omega arith) begin))

pub returns-clause-costs : goal.returns-clause-costs
returns-clause-costs g c =
    let t = c.args.table.now in
    let old = g.O.Sink.taken c.args.out.now in
    let now = g.O.Sink.taken c.resume.new.out in
    let page = c.args.page in
    let size = c.args.size in
    let each = each_of t size in
    let small = spent_small t t (keeps_itself t) c.holds.ensures in
    let one = few_sizes each 1 size c.requires.some in
    let after = value_of c.args.after in
    let cost = subst (λ n. HasCost old now 0 (c.args.steps.now + 3 * n + each_of t n) (each_of t n) c.resume.new.steps (asked_of t n after) page) c.in-Ok.ensures.room
    (c.in-Err.ensures.costs page old (at_start page old c.requires.page)) in
    cost_later (asked_of t size after) page old now 0 (c.args.steps.now + 3 * size + each) each c.resume.new.steps _ _ _ (omega (arith, small, one)) cost

pub returns-in-Ok-resume-clause-whole : goal.returns-in-Ok-resume-clause-whole
returns-in-Ok-resume-clause-whole g c = λ is.
    let t = c.args.table.now in
    let old = g.O.Sink.taken c.args.out.now in
    let now = g.O.Sink.taken c.list_sizes.new.out in
    let page = c.args.page in
    let size = c.args.size in
    let each = each_of t size in
    let y = c.args.steps.now + 3 * size in
    let first = c.in-Ok-resume.first in
    let start = at_start page old c.requires.page in
    let after = value_of c.args.after in
    let behind = (subst (λ n. IsAtSize t n after first page c.resume.new.left old (g.O.Sink.taken c.resume.new.out)) c.in-Ok.ensures.room (c.in-Ok-resume.ensures.begins page old start)).behind in
    let begin = subst (λ n. IsDoneBelow (asked_of t n after) (IsWrittenFor old (g.O.Sink.taken c.resume.new.out) (each_of t n) (c.args.steps.now + 3 * n + each_of t n * first) (each_of t n) c.resume.new.steps)
    page first c.resume.new.left) c.in-Ok.ensures.room (c.in-Ok-resume.ensures.costs page old start) in
    cost_later (asked_of t size after) page old now (0 + t.spent) (y + c.list_sizes.new.table.spent + each * size) each c.list_sizes.new.steps _ _ _ (omega arith)
    (c.list_sizes.ensures.whole 0 y after page old behind
    (below_later (asked_of t size after) page old (g.O.Sink.taken c.resume.new.out) each (y + each * first) each c.resume.new.steps (0 + each) (y + each * first) c.resume.new.steps first c.resume.new.left
    (omega arith) begin) is)

pub returns-clause-whole : goal.returns-clause-whole
returns-clause-whole g c = λ is. absurd (subst IsCut is c.in-Err.ensures.cut)

pub returns-in-Ok-resume-clause-grown : goal.returns-in-Ok-resume-clause-grown
returns-in-Ok-resume-clause-grown g c = λ few is. c.list_sizes.ensures.grown few c.in-Ok-resume.ensures.known is

pub returns-clause-grown : goal.returns-clause-grown
returns-clause-grown g c = λ few is. absurd (subst IsCut is c.in-Err.ensures.cut)
