use Rattle.std.proofs.Common.{length, None, arith, subst}
use Rattle.std.specs.Io.KnownBytes.{Appends}
use Rattle.outside.specs.Devices.{AppendsFront}
use Rattle.feasibility.specs.Limits.{IsOverLimit}
use Rattle.listing.proofs.StateLines.{counting_stops, counting_lacks, counted, cut_off, exactly, spent_small, line, grown_to}
use Rattle.listing.specs.Progress.{asked_of}
use Rattle.listing.proofs.counting.write_count.Goals as goal

pub returns-in-Err-StateLimit-clause-counts_on : goal.returns-in-Err-StateLimit-clause-counts_on
returns-in-Err-StateLimit-clause-counts_on g c = λ n taken l h.
    counting_stops c.args.table.now n taken (g.O.Sink.taken c.args.out.now) c.args.m c.requires.some l h c.in-Err-StateLimit.size c.in-Err-StateLimit.count
    (subst (IsOverLimit c.args.table.now c.args.m) c.in-Err-StateLimit.field-0-is c.in-Err-StateLimit.ensures.limit)

pub returns-in-Err-OutOfMemory-clause-counts_on : goal.returns-in-Err-OutOfMemory-clause-counts_on
returns-in-Err-OutOfMemory-clause-counts_on g c = λ n taken l h.
    counting_lacks (asked_of c.args.table.now n None) c.args.m taken (g.O.Sink.taken c.args.out.now) h l

pub returns-in-Ok-write_state_line-clause-counts_on : goal.returns-in-Ok-write_state_line-clause-counts_on
returns-in-Ok-write_state_line-clause-counts_on g c = λ n taken l h.
    let t = c.args.table.now in
    let new = c.grow_to.new.self in
    let old = g.O.Sink.taken c.args.out.now in
    let now = g.O.Sink.taken c.write_state_line.new.sink in
    let has = grown_to c.args.m t.grown new.grown c.requires.next c.in-Ok.ensures.grown in
    counted (asked_of t n None) c.args.m taken old h (length new.states) now (exactly t new n c.args.m c.grow_to.ensures.kept c.holds.ensures has)
    c.in-Ok.ensures.few (subst (λ k. Appends old now (line c.args.m k)) c.state_count.ensures c.in-Ok-write_state_line.ensures.ok)

pub returns-in-Err-clause-counts_on : goal.returns-in-Err-clause-counts_on
returns-in-Err-clause-counts_on g c = λ n taken l h.
    let t = c.args.table.now in
    let new = c.grow_to.new.self in
    let old = g.O.Sink.taken c.args.out.now in
    let now = g.O.Sink.taken c.write_state_line.new.sink in
    let has = grown_to c.args.m t.grown new.grown c.requires.next c.in-Ok.ensures.grown in
    cut_off (asked_of t n None) c.args.m taken old h (length new.states) now l (exactly t new n c.args.m c.grow_to.ensures.kept c.holds.ensures has)
    c.in-Ok.ensures.few (subst (λ k. AppendsFront old now (line c.args.m k)) c.state_count.ensures c.in-Err.ensures.err)

pub returns-in-Ok-write_state_line-clause-ticks : goal.returns-in-Ok-write_state_line-clause-ticks
returns-in-Ok-write_state_line-clause-ticks g c =
    let spent = c.in-Ok.ensures.spent in
    let small = spent_small c.args.table.now c.grow_to.new.self c.grow_to.ensures.kept c.holds.ensures in
    omega (arith, spent, small)

pub returns-in-Err-clause-ticks : goal.returns-in-Err-clause-ticks
returns-in-Err-clause-ticks g c =
    let spent = c.in-Ok.ensures.spent in
    let small = spent_small c.args.table.now c.grow_to.new.self c.grow_to.ensures.kept c.holds.ensures in
    omega (arith, spent, small)
