use Rattle.std.proofs.Common.{arith}
use Rattle.summary.proofs.Parts.{on_err}
use Rattle.summary.proofs.Sizes.{no_lines, next_line, fails_at}
use Rattle.summary.proofs.tally.Tally.send_sizes.Goals as goal

pub loop-place-init : goal.loop-place-init
loop-place-init g c = no_lines c.args.self.now.counts (g.O.Sink.taken c.args.sink.now) (g.O.Sink.faults c.args.sink.now)

pub returns-in_err-send_size-clause-err : goal.returns-in_err-send_size-clause-err
returns-in_err-send_size-clause-err g c =
    on_err c.from_residual.result (fails_at c.args.self.now.counts c.loop-place.place (omega arith) c.loop-place.invariant c.in_err-send_size.ensures.err)

pub loop-place-preserved : goal.loop-place-preserved
loop-place-preserved g c = next_line c.args.self.now.counts c.loop-place.place c.loop-place.invariant c.in_ok-send_size.ensures.ok
