use Rattle.std.proofs.Common.{◌≡◌, ap, sym, ◌∙◌, None, Some}
use Rattle.line_laws.specs.Walks.{Before, fault_number}
use Rattle.skeleton.proofs.Stored.{events_of_stored, stored_is_skeleton}
use Rattle.skeleton.proofs.document.Skeleton.accept.Goals as goal

pub returns-in-None-clause-skeleton : goal.returns-in-None-clause-skeleton
returns-in-None-clause-skeleton c =
    let none : fault_number Before c.args.list ≡ None = ap (fault_number Before) (sym c.as_slice.ensures.events) ∙ sym c.in-None.ensures in
    let are = (c.reading_events_is_exact.ensures.accepts c.args.list c.as_slice.ensures.are_events).0 none in
    (stored_is_skeleton _ are, events_of_stored _ are)

pub returns-in-None-clause-refused : goal.returns-in-None-clause-refused
returns-in-None-clause-refused c = λ event.
    let none : fault_number Before c.args.list ≡ None = ap (fault_number Before) (sym c.as_slice.ensures.events) ∙ sym c.in-None.ensures in
    (λ e. absurd e, λ no. absurd (let some = (c.reading_events_is_exact.ensures.refuses c.args.list c.as_slice.ensures.are_events event).1 no in cc))

pub returns-in-Some-clause-refused : goal.returns-in-Some-clause-refused
returns-in-Some-clause-refused c = λ event.
    let found : fault_number Before c.args.list ≡ Some c.in-Some.event = ap (fault_number Before) (sym c.as_slice.ensures.events) ∙ sym c.in-Some.ensures in
    let law = c.reading_events_is_exact.ensures.refuses c.args.list c.as_slice.ensures.are_events event in
    (λ e. law.0 (found ∙ ap Some e), λ no. let some = law.1 no in cc)
