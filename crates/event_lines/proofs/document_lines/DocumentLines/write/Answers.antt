use Rattle.std.proofs.Common.{[], refl}
use Rattle.event_lines.proofs.Spelling.{have_spellings, spelled_are}
use Rattle.event_lines.proofs.Written.{appended, front_appended}
use Rattle.event_lines.proofs.document_lines.DocumentLines.write.Goals as goal

pub send-requires-clause-spelled : goal.send-requires-clause-spelled
send-requires-clause-spelled g c = have_spellings c.args.self.now.spellings c.args.codes.now c.requires.spelled

pub returns-in-Ok-clause-ok : goal.returns-in-Ok-clause-ok
returns-in-Ok-clause-ok g c = λ u es spelled are.
    let has = have_spellings c.args.self.now.spellings c.args.codes.now c.requires.spelled in
    appended (g.O.Sink.taken c.args.sink.now) [] (g.O.Sink.taken c.send.new.sink) [] _ _
    refl refl (spelled_are u c.args.self.now.spellings es c.args.codes.now has spelled are) c.in-Ok.ensures.ok.grown

pub returns-in-Err-clause-err : goal.returns-in-Err-clause-err
returns-in-Err-clause-err g c = λ u es spelled are.
    let has = have_spellings c.args.self.now.spellings c.args.codes.now c.requires.spelled in
    front_appended (g.O.Sink.taken c.args.sink.now) (g.O.Sink.taken c.send.new.sink) [] _ _
    refl (spelled_are u c.args.self.now.spellings es c.args.codes.now has spelled are) c.in-Err.ensures.err.front
