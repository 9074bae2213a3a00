use Rattle.std.proofs.Common.{◌≡◌, ◌+◌, ◌*◌, ◌≤◌, ◌∙◌, Option, Some, Bor, ap, arith, sym, subst, option_map, IfSome}
use Rattle.rng_model.specs.Hedges.{size}
use Rattle.rng_model.specs.Listing.{IsListed}
use Rattle.skeleton.specs.declared.document.Skeleton.{Skeleton}
use Rattle.feasibility.specs.Tables.{lists}
use Rattle.listing.specs.Progress.{asked_of}
use Rattle.listing.specs.Endings.{EndsAs, IsAtSize}
use Rattle.listing.specs.Doing.{IsDoneBelow}
use Rattle.listing.specs.Summing.{each_of}
use Rattle.listing.specs.Costs.{IsWrittenFor, HasCost}
use Rattle.listing.proofs.Sums.{few_sizes}
use Rattle.listing.proofs.Costs.{below_later, first_for, ready_for}
use Rattle.listing.proofs.FromSizeToSize.{at_first, cursor_set, ready_at_cursor, after_cursor}
use Rattle.listing.proofs.Held.{nothing_held}
use Rattle.listing.proofs.sizes.resume.Goals as goal

abbrev value_of : Option (Bor Skeleton) → Option Skeleton
value_of o = option_map (λ b. b.now) o

pub returns-in_default-clause-begins : goal.returns-in_default-clause-begins
returns-in_default-clause-begins g c = λ page taken h.
    let t = c.args.table.now in
    let n = c.args.lister.now.room in
    let now = g.O.Sink.taken c.args.out.now in
    subst (λ o. IsAtSize t n (value_of o) 1 page c.args.left.now taken now) (sym c.in_default.is) (at_first t n page c.args.left.now taken now h)

pub write_size-requires-clause-held : goal.write_size-requires-clause-held
write_size-requires-clause-held g c = nothing_held c.resume_at.new.self.stage c.args.lines.now.codes c.requires.none

pub write_size-requires-clause-set : goal.write_size-requires-clause-set
write_size-requires-clause-set g c =
    let t = c.args.table.now in
    let n = c.args.lister.now.room in
    let listed = subst (λ o. IfSome o (λ b. IsListed t.schema (lists t) n b.now)) c.in-Some.is c.requires.listed in
    cursor_set t c.holds.ensures n c.in-Some.cursor.now listed c.resume_at.new.self c.resume_at.ensures.at

pub overflow_add-result : goal.overflow_add-result
overflow_add-result g c =
    let t = c.args.table.now in
    let n = c.args.lister.now.room in
    let listed = subst (λ o. IfSome o (λ b. IsListed t.schema (lists t) n b.now)) c.in-Some.is c.requires.listed in
    let counted = c.size.ensures in
    let small = listed.small in
    let most = c.requires.small in
    omega (arith, counted, small, most)

pub returns-in-Ok-clause-begins : goal.returns-in-Ok-clause-begins
returns-in-Ok-clause-begins g c = λ page taken h.
    let t = c.args.table.now in
    let n = c.args.lister.now.room in
    let cursor = c.in-Some.cursor.now in
    let v = c.resume_at.new.self in
    let old = g.O.Sink.taken c.args.out.now in
    let now = g.O.Sink.taken c.write_size.new.out in
    let rest = c.write_size.new.left in
    let listed = subst (λ o. IfSome o (λ b. IsListed t.schema (lists t) n b.now)) c.in-Some.is c.requires.listed in
    let grown = subst (λ o. IfSome o (λ b. size b.now ≤ t.grown)) c.in-Some.is c.requires.grown in
    let ready = ready_at_cursor t c.holds.ensures n cursor listed page c.args.left.now taken old v grown h c.resume_at.ensures.size c.resume_at.ensures.at in
    let below = c.in-Ok.ensures.completes n (Some cursor) page taken ready in
    let next = after_cursor t n cursor page rest taken now v c.resume_at.ensures.size below in
    let counted = subst (λ m. IsAtSize t n (Some cursor) (m + 1) page rest taken now) (sym c.size.ensures) next in
    subst (λ o. IsAtSize t n (value_of o) (c.size.result + 1) page rest taken now) (sym c.in-Some.is) counted

pub returns-in-Err-clause-begins : goal.returns-in-Err-clause-begins
returns-in-Err-clause-begins g c = λ page taken h.
    let t = c.args.table.now in
    let n = c.args.lister.now.room in
    let cursor = c.in-Some.cursor.now in
    let v = c.resume_at.new.self in
    let old = g.O.Sink.taken c.args.out.now in
    let now = g.O.Sink.taken c.write_size.new.out in
    let listed = subst (λ o. IfSome o (λ b. IsListed t.schema (lists t) n b.now)) c.in-Some.is c.requires.listed in
    let grown = subst (λ o. IfSome o (λ b. size b.now ≤ t.grown)) c.in-Some.is c.requires.grown in
    let ready = ready_at_cursor t c.holds.ensures n cursor listed page c.args.left.now taken old v grown h c.resume_at.ensures.size c.resume_at.ensures.at in
    subst (λ o. EndsAs (asked_of t n (value_of o)) page taken now c.in-Err.end) (sym c.in-Some.is) (c.in-Err.ensures.completes n (Some cursor) page taken ready)

pub returns-in_default-clause-costs : goal.returns-in_default-clause-costs
returns-in_default-clause-costs g c = λ page taken h.
    let t = c.args.table.now in
    let n = c.args.lister.now.room in
    let each = each_of t n in
    let s = c.args.steps.now in
    let y = s + 3 * n + each * 1 in
    let now = g.O.Sink.taken c.args.out.now in
    subst (λ o. IsDoneBelow (asked_of t n (value_of o)) (IsWrittenFor taken now each y each s) page 1 c.args.left.now) (sym c.in_default.is)
    (first_for t n page c.args.left.now taken now each y each s (omega arith) h)

pub returns-in-Ok-clause-costs : goal.returns-in-Ok-clause-costs
returns-in-Ok-clause-costs g c = λ page taken h.
    let t = c.args.table.now in
    let n = c.args.lister.now.room in
    let each = each_of t n in
    let y = c.args.steps.now + 3 * n in
    let cursor = c.in-Some.cursor.now in
    let v = c.resume_at.new.self in
    let s1 = c.resume_at.new.steps in
    let s2 = c.write_size.new.steps in
    let old = g.O.Sink.taken c.args.out.now in
    let now = g.O.Sink.taken c.write_size.new.out in
    let rest = c.write_size.new.left in
    let listed = subst (λ o. IfSome o (λ b. IsListed t.schema (lists t) n b.now)) c.in-Some.is c.requires.listed in
    let grown = subst (λ o. IfSome o (λ b. size b.now ≤ t.grown)) c.in-Some.is c.requires.grown in
    let ready = ready_at_cursor t c.holds.ensures n cursor listed page c.args.left.now taken old v grown h c.resume_at.ensures.size c.resume_at.ensures.at in
    let ticks = c.resume_at.ensures.ticks in
    let least = subst (λ r. each_of t r ≤ each) (sym c.resume_at.ensures.room) (omega arith) in
    let begin = ready_for t n (Some cursor) v page c.args.left.now taken old 0 y each s1 (omega (arith, ticks)) ready in
    let below = c.in-Ok.ensures.costs n 0 y each (Some cursor) page taken least begin in
    let m = c.size.result + 1 in
    let at : v.size + 1 ≡ m = ap (λ k. k + 1) (c.resume_at.ensures.size ∙ sym c.size.ensures) in
    let two = few_sizes each 2 m (let counted = c.size.ensures in omega (arith, counted)) in
    let counted = subst (λ k. IsDoneBelow (asked_of t n (Some cursor)) (IsWrittenFor taken now 0 (y + each) each s2) page k rest) at below in
    let next = below_later (asked_of t n (Some cursor)) page taken now 0 (y + each) each s2 each (y + each * m) s2 m rest (omega (arith, two)) counted in
    subst (λ o. IsDoneBelow (asked_of t n (value_of o)) (IsWrittenFor taken now each (y + each * m) each s2) page m rest) (sym c.in-Some.is) next

pub returns-in-Err-clause-costs : goal.returns-in-Err-clause-costs
returns-in-Err-clause-costs g c = λ page taken h.
    let t = c.args.table.now in
    let n = c.args.lister.now.room in
    let each = each_of t n in
    let y = c.args.steps.now + 3 * n in
    let cursor = c.in-Some.cursor.now in
    let v = c.resume_at.new.self in
    let s1 = c.resume_at.new.steps in
    let s2 = c.write_size.new.steps in
    let old = g.O.Sink.taken c.args.out.now in
    let now = g.O.Sink.taken c.write_size.new.out in
    let rest = c.write_size.new.left in
    let listed = subst (λ o. IfSome o (λ b. IsListed t.schema (lists t) n b.now)) c.in-Some.is c.requires.listed in
    let grown = subst (λ o. IfSome o (λ b. size b.now ≤ t.grown)) c.in-Some.is c.requires.grown in
    let ready = ready_at_cursor t c.holds.ensures n cursor listed page c.args.left.now taken old v grown h c.resume_at.ensures.size c.resume_at.ensures.at in
    let ticks = c.resume_at.ensures.ticks in
    let least = subst (λ r. each_of t r ≤ each) (sym c.resume_at.ensures.room) (omega arith) in
    let begin = ready_for t n (Some cursor) v page c.args.left.now taken old 0 y each s1 (omega (arith, ticks)) ready in
    subst (λ o. HasCost taken now 0 (y + each) each s2 (asked_of t n (value_of o)) page) (sym c.in-Some.is)
    (c.in-Err.ensures.costs n 0 y each (Some cursor) page taken least begin)

pub returns-in-Ok-clause-known : goal.returns-in-Ok-clause-known
returns-in-Ok-clause-known g c =
    let grown = subst (λ o. IfSome o (λ b. size b.now ≤ c.args.table.now.grown)) c.in-Some.is c.requires.grown in
    let counted = c.size.ensures in
    omega (arith, grown, counted)
