use Rattle.summary.specs.Totals.{place_lines}
use Rattle.summary.specs.Sending.{Sends}
use Rattle.summary.proofs.tally.Tally.send_sizes.Given as goal

abbrev pub invariant-loop-place : goal.invariant-loop-place
invariant-loop-place g l =
    Sends (g.O.Sink.taken l.fn.sink) (g.O.Sink.taken l.sink) (g.O.Sink.faults l.fn.sink) (g.O.Sink.faults l.sink) (place_lines l.self.counts l.place)
