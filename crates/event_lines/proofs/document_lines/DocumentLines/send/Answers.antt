use Rattle.std.proofs.Common.{◌-◌, length, take, map, refl, sym, subst}
use Rattle.skeleton.specs.Views.{code_of}
use Rattle.event_lines.specs.Held.{BeginsWith, Held, SpelledCodes}
use Rattle.event_lines.proofs.Ending.{begin_alike, begins_with}
use Rattle.event_lines.proofs.document_lines.DocumentLines.send.Goals as goal

pub hold_front-requires-clause-unchanged : goal.hold_front-requires-clause-unchanged
hold_front-requires-clause-unchanged g c =
    let cs = c.args.codes.now in
    let many = length cs - c.closings_behind-closings.result in
    begin_alike c.args.unchanged many c.self.inside.held.codes cs (take many cs)
    (subst (λ (d : SpelledCodes). BeginsWith (map code_of cs) (take c.args.unchanged d.codes)) (sym c.self.view_is) c.requires.unchanged) refl

pub returns-clause-held : goal.returns-clause-held
returns-clause-held g c =
    let cs = c.args.codes.now in
    let many = length cs - c.closings_behind-closings.result in
    subst (λ (h : Held). BeginsWith (map code_of cs) (map code_of h.codes)) (sym c.send_document.ensures.same)
    (begins_with many c.hold_front.new.held.codes (take many cs) cs c.hold_front.ensures.front refl c.hold_front.ensures.count)
