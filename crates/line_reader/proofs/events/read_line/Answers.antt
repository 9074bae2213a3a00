use Rattle.std.proofs.Common.{◌≡◌}
use Rattle.rng_model.specs.Events.{Event}
use Rattle.line_laws.specs.EventLists.{IsEvent}
use Rattle.line_reader.specs.Spellings.{event_body}
use Rattle.line_reader.proofs.Options.{at_none, at_some}
use Rattle.line_reader.proofs.Bodies.{line_first, no_such_line}
use Rattle.skeleton.specs.Views.{event_of}
use Rattle.line_reader.proofs.events.read_line.Goals as goal

pub returns-in-Some-2-clause-value : goal.returns-in-Some-2-clause-value
returns-in-Some-2-clause-value c =
    line_first (event_of c.in-Some-2.event) c.args.bytes.now c.in-Some.body.now c.in-Some.field-0-1.now
    (at_some c.in_ok-event.field-0 c.in-Some-2.event ((e : Event) → IsEvent e → event_body e ≡ c.in-Some.body.now → ⊥) (λ e. event_body (event_of e) ≡ c.in-Some.body.now) c.in_ok-event.ensures c.in-Some-2.is) c.in-Some.ensures.1

pub returns-in-None-clause-value : goal.returns-in-None-clause-value
returns-in-None-clause-value c =
    no_such_line c.args.bytes.now c.in-Some.body.now c.in-Some.field-0-1.now c.in-Some.ensures.0 c.in-Some.ensures.1
    (at_none c.in_ok-event.field-0 ((e : Event) → IsEvent e → event_body e ≡ c.in-Some.body.now → ⊥) (λ e. event_body (event_of e) ≡ c.in-Some.body.now) c.in_ok-event.ensures c.in-None.is)
