use Rattle.std.specs.Io.KnownBytes.{Appends}
use Rattle.std.proofs.Common.{subst}
use Rattle.outside.specs.Devices.{AppendsFront}
use Rattle.summary.proofs.Written.{is_summary}
use Rattle.summary.proofs.tally.Tally.write_summary.Goals as goal

pub returns-in-Ok-clause-ok : goal.returns-in-Ok-clause-ok
returns-in-Ok-clause-ok g c = λ queue tally.
    subst (λ z. Appends (g.O.Sink.taken c.args.sink.now) (g.O.Sink.taken c.send_lines.new.sink) z) (is_summary c.args.self.now queue tally) c.in-Ok.ensures.ok.grown

pub returns-in-Err-clause-err : goal.returns-in-Err-clause-err
returns-in-Err-clause-err g c = λ queue tally.
    subst (λ z. AppendsFront (g.O.Sink.taken c.args.sink.now) (g.O.Sink.taken c.send_lines.new.sink) z) (is_summary c.args.self.now queue tally) c.in-Err.ensures.err.front
