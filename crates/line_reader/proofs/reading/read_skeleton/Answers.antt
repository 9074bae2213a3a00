use Rattle.std.proofs.Common.{◌≡◌, ◌+◌, ◌++◌, ◌∙◌, ap, sym, refl, arith, drop, flat_map, length}
use Rattle.std.proofs.lemmas.List.{length-map}
use Rattle.rng_model.specs.Lines.{event_line, skeleton_text}
use Rattle.skeleton.specs.Views.{event_of}
use Rattle.line_reader.proofs.Faulted.{slice_from, behind_whole, behind_front, among_events, is_refused, is_accepted}
use Rattle.line_reader.proofs.reading.read_skeleton.Goals as goal

pub returns-in-None-clause-ok : goal.returns-in-None-clause-ok
unfolding skeleton_text
returns-in-None-clause-ok c =
    let rest = sym (slice_from c.args.bytes.now c.in_ok-events.len) ∙ c.in-None.ensures in
    (c.in-Ok.ensures.skeleton.0, (λ i. flat_map event_line (c.in-Ok.ensures.skeleton.1 i) ++ sym rest i) ∙ sym c.in_ok-events.ensures.lines)

pub returns-in-Some-clause-refused : goal.returns-in-Some-clause-refused
returns-in-Some-clause-refused c =
    let n : length c.as_slice-count.result.now + 1 ≡ 1 + length c.in_ok-events.events = omega (arith, length-map c.as_slice-count.result.now event_of, ap length c.as_slice-count.ensures.events) in
    is_refused c.args.bytes.now c.in-Some.fault
    (behind_whole c.in_ok-events.events (drop c.in_ok-events.len c.args.bytes.now) _ c.args.bytes.now _ c.in-Some.fault c.as_slice-count.ensures.are_events c.in_ok-events.ensures.lines
    (c.in-Ok.skeleton, c.in-Ok.ensures.skeleton.0, c.in-Ok.ensures.skeleton.1) n (slice_from c.args.bytes.now c.in_ok-events.len) c.in-Some.ensures)

pub returns-in-Some-clause-whole : goal.returns-in-Some-clause-whole
returns-in-Some-clause-whole c =
    let n : length c.as_slice-count.result.now + 1 ≡ 1 + length c.in_ok-events.events = omega (arith, length-map c.as_slice-count.result.now event_of, ap length c.as_slice-count.ensures.events) in
    is_accepted c.args.bytes.now c.in-Some.fault
    (behind_whole c.in_ok-events.events (drop c.in_ok-events.len c.args.bytes.now) _ c.args.bytes.now _ c.in-Some.fault c.as_slice-count.ensures.are_events c.in_ok-events.ensures.lines
    (c.in-Ok.skeleton, c.in-Ok.ensures.skeleton.0, c.in-Ok.ensures.skeleton.1) n (slice_from c.args.bytes.now c.in_ok-events.len) c.in-Some.ensures)

pub returns-then-refused-count-clause-refused : goal.returns-then-refused-count-clause-refused
returns-then-refused-count-clause-refused c =
    let n : length c.as_slice-count.result.now ≡ length c.in_ok-events.events = omega (arith, length-map c.as_slice-count.result.now event_of, ap length c.as_slice-count.ensures.events) in
    is_refused c.args.bytes.now c.fault_of_event.result
    (among_events c.in_ok-events.events _ (drop c.in_ok-events.len c.args.bytes.now) c.args.bytes.now c.in-Err.refused.event c.fault_of_event.result c.as_slice-count.ensures.are_events c.in_ok-events.ensures.lines
    ((c.in-Err.ensures.refused c.in-Err.refused.event).0 refl) (omega arith) (c.as_slice.ensures.events ∙ c.in-Err.ensures.kept) c.fault_of_event.ensures)

pub returns-then-refused-count-clause-whole : goal.returns-then-refused-count-clause-whole
returns-then-refused-count-clause-whole c =
    let n : length c.as_slice-count.result.now ≡ length c.in_ok-events.events = omega (arith, length-map c.as_slice-count.result.now event_of, ap length c.as_slice-count.ensures.events) in
    is_accepted c.args.bytes.now c.fault_of_event.result
    (among_events c.in_ok-events.events _ (drop c.in_ok-events.len c.args.bytes.now) c.args.bytes.now c.in-Err.refused.event c.fault_of_event.result c.as_slice-count.ensures.are_events c.in_ok-events.ensures.lines
    ((c.in-Err.ensures.refused c.in-Err.refused.event).0 refl) (omega arith) (c.as_slice.ensures.events ∙ c.in-Err.ensures.kept) c.fault_of_event.ensures)

pub returns-else-refused-count-clause-refused : goal.returns-else-refused-count-clause-refused
returns-else-refused-count-clause-refused c =
    let n : length c.as_slice-count.result.now + 1 ≡ 1 + length c.in_ok-events.events = omega (arith, length-map c.as_slice-count.result.now event_of, ap length c.as_slice-count.ensures.events) in
    is_refused c.args.bytes.now c.fault_behind_front.result
    (behind_front c.in_ok-events.events (drop c.in_ok-events.len c.args.bytes.now) _ c.args.bytes.now c.in-Err.refused.event _ c.fault_behind_front.result c.as_slice-count.ensures.are_events c.in_ok-events.ensures.lines
    ((c.in-Err.ensures.refused c.in-Err.refused.event).0 refl) (omega arith) c.in_ok-events.ensures.all n (slice_from c.args.bytes.now c.in_ok-events.len) c.fault_behind_front.ensures)

pub returns-else-refused-count-clause-whole : goal.returns-else-refused-count-clause-whole
returns-else-refused-count-clause-whole c =
    let n : length c.as_slice-count.result.now + 1 ≡ 1 + length c.in_ok-events.events = omega (arith, length-map c.as_slice-count.result.now event_of, ap length c.as_slice-count.ensures.events) in
    is_accepted c.args.bytes.now c.fault_behind_front.result
    (behind_front c.in_ok-events.events (drop c.in_ok-events.len c.args.bytes.now) _ c.args.bytes.now c.in-Err.refused.event _ c.fault_behind_front.result c.as_slice-count.ensures.are_events c.in_ok-events.ensures.lines
    ((c.in-Err.ensures.refused c.in-Err.refused.event).0 refl) (omega arith) c.in_ok-events.ensures.all n (slice_from c.args.bytes.now c.in_ok-events.len) c.fault_behind_front.ensures)
