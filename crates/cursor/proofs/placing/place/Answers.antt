use Rattle.std.proofs.Common.{◌≡◌, ◌-◌, ◌+◌, length, ap, subst, arith}
use Rattle.std.proofs.lemmas.List.{length-map}
use Rattle.std.proofs.lemmas.Option.{slice_get_within}
use Rattle.rng_model.specs.Events.{events}
use Rattle.skeleton.specs.Views.{event_of}
use Rattle.cursor.proofs.Standing.{StandsAt, event_at, within, grown_at, goes, stray_here, arrives, ticks_within}
use Rattle.cursor.proofs.placing.place.Goals as goal

pub overflow_sub-left : goal.overflow_sub-left
overflow_sub-left g c =
    let at = event_at event_of _ _ c.loop-position.position c.event-item.result c.events-event-items.ensures.events c.loop-position-test.true c.event-item.is in
    let w = within c.args.table.now c.holds.ensures c.args.cursor.now _ _ _ _ c.loop-position.invariant.stands at in
    let n = c.nodes.ensures in
    omega arith

pub pass-requires-clause-grown : goal.pass-requires-clause-grown
pass-requires-clause-grown g c =
    let at = event_at event_of _ _ c.loop-position.position c.event-item.result c.events-event-items.ensures.events c.loop-position-test.true c.event-item.is in
    grown_at c.args.table.now c.holds.ensures c.args.cursor.now _ _ _ _ _ c.loop-position.invariant.stands at
    (ap (λ z. c.loop-position.rest - z) c.nodes.ensures) (c.requires.grown c.loop-position.invariant.small)

pub returns-in_default-pass-clause-refused : goal.returns-in_default-pass-clause-refused
returns-in_default-pass-clause-refused g c =
    let at = event_at event_of _ _ c.loop-position.position c.event-item.result c.events-event-items.ensures.events c.loop-position-test.true c.event-item.is in (
      c.loop-position.invariant.small,
      stray_here c.args.table.now c.holds.ensures c.args.cursor.now _ _ _ _ _ c.loop-position.invariant.stands at
          (ap (λ z. c.loop-position.rest - z) c.nodes.ensures) c.in_default-pass.ensures.none,
    )

pub returns-in_default-pass-clause-ticks : goal.returns-in_default-pass-clause-ticks
returns-in_default-pass-clause-ticks g c =
    let at = event_at event_of _ _ c.loop-position.position c.event-item.result c.events-event-items.ensures.events c.loop-position-test.true c.event-item.is in
    let b = slice_get_within (events c.args.cursor.now) c.loop-position.position (event_of c.event-item.result) at in
    let w = ticks_within c.args.table.now c.holds.ensures c.args.cursor.now (c.loop-position.position + 1) c.args.n (omega arith) c.loop-position.invariant.small in
    let k = c.loop-position.invariant.ticks in
    let q = c.pass.ensures.ticks in
    omega arith

pub loop-position-preserved : goal.loop-position-preserved
loop-position-preserved g c =
    let at = event_at event_of _ _ c.loop-position.position c.event-item.result c.events-event-items.ensures.events c.loop-position-test.true c.event-item.is in
    let k = c.loop-position.invariant.ticks in
    let q = c.pass.ensures.ticks in
    record {
      stands = goes c.args.table.now c.holds.ensures c.args.cursor.now _ _ _ _ _ _ c.loop-position.invariant.stands at
          (ap (λ z. c.loop-position.rest - z) c.nodes.ensures) c.in-Some-pass.ensures.some;
      small = c.loop-position.invariant.small;
      ticks = omega arith;
    }

pub returns-clause-listed : goal.returns-clause-listed
returns-clause-listed g c =
    let e : c.loop-position.position ≡ length (events c.args.cursor.now) =
    omega (arith, length-map c.events-event-items.result.now event_of, ap length c.events-event-items.ensures.events) in
    arrives c.args.table.now c.holds.ensures c.args.cursor.now c.loop-position.id.0 c.loop-position.rest c.args.n c.events-event-items.ensures.is_skeleton c.loop-position.invariant.small
    (subst (λ i. StandsAt c.args.table.now c.args.cursor.now i c.loop-position.id.0 c.loop-position.rest) e c.loop-position.invariant.stands)

pub returns-clause-ticks : goal.returns-clause-ticks
returns-clause-ticks g c =
    let e : c.loop-position.position ≡ length (events c.args.cursor.now) =
    omega (arith, length-map c.events-event-items.result.now event_of, ap length c.events-event-items.ensures.events) in
    let w = ticks_within c.args.table.now c.holds.ensures c.args.cursor.now c.loop-position.position c.args.n (omega arith) c.loop-position.invariant.small in
    let k = c.loop-position.invariant.ticks in
    omega arith
