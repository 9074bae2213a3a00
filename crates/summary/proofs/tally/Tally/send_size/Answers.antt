use Rattle.std.specs.Prelude.{OnOk, OnErr}
use Rattle.std.proofs.Common.{◌∙◌, subst}
use Rattle.summary.specs.Sending.{Sends, Fails}
use Rattle.summary.proofs.Parts.{sends_nothing}
use Rattle.summary.proofs.Sizes.{some_here, none_here}
use Rattle.summary.proofs.tally.Tally.send_size.Goals as goal

pub returns-in-Some-clause-ok : goal.returns-in-Some-clause-ok
returns-in-Some-clause-ok g c =
    subst (λ z. OnOk c.send.result (Sends (g.O.Sink.taken c.args.sink.now) (g.O.Sink.taken c.send.new.sink) (g.O.Sink.faults c.args.sink.now) (g.O.Sink.faults c.send.new.sink) z))
    (c.size_line.ensures ∙ some_here _ c.args.self.now c.args.place c.in-Some.count c.self.view_is c.in-Some.is) c.send.ensures.ok

pub returns-in-Some-clause-err : goal.returns-in-Some-clause-err
returns-in-Some-clause-err g c =
    subst (λ z. OnErr c.send.result (Fails (g.O.Sink.taken c.args.sink.now) (g.O.Sink.taken c.send.new.sink) (g.O.Sink.faults c.args.sink.now) (g.O.Sink.faults c.send.new.sink) z))
    (c.size_line.ensures ∙ some_here _ c.args.self.now c.args.place c.in-Some.count c.self.view_is c.in-Some.is) c.send.ensures.err

pub returns-in-None-clause-ok : goal.returns-in-None-clause-ok
returns-in-None-clause-ok g c =
    subst (λ z. Sends (g.O.Sink.taken c.args.sink.now) (g.O.Sink.taken c.args.sink.now) (g.O.Sink.faults c.args.sink.now) (g.O.Sink.faults c.args.sink.now) z)
    (none_here _ c.args.self.now c.args.place c.self.view_is c.in-None.is) (sends_nothing (g.O.Sink.taken c.args.sink.now) (g.O.Sink.faults c.args.sink.now))
