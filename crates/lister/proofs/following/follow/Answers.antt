use Rattle.std.proofs.Common.{◌≡◌, ◌-◌, ◌∷◌, [], length, take, ap, subst, arith, refl}
use Rattle.std.proofs.lemmas.List.{length-map}
use Rattle.rng_model.specs.Hedges.{size as size_of}
use Rattle.rng_model.specs.Events.{events}
use Rattle.rng_model.specs.Codes.{AreCodes, IsCode}
use Rattle.table_laws.specs.Reaching.{weight}
use Rattle.table_laws.proofs.Rows.{nodes-append, nodes-cons}
use Rattle.skeleton.specs.Views.{code_of, event_of}
use Rattle.feasibility.specs.Tables.{lists}
use Rattle.lister.proofs.Steps.{grown_for, room_for, step_on, weight_within}
use Rattle.lister.proofs.Follows.{event_at, code_for, no_code_for, no_stray, takes_code, codes_more}
use Rattle.lister.proofs.Arriving.{at_start, arrived, few_events}
use Rattle.lister.proofs.following.follow.Goals as goal

pub loop-event-init : goal.loop-event-init
loop-event-init g c =
    let start = c.in-Some.ensures.some in
    rw c.clear.ensures (record {
      codes = tt;
      left = size_of c.args.cursor.now;
      leads = at_start c.args.table.now c.holds.ensures.listable c.args.cursor.now _ c.requires.listed _ start.0 start.1 c.requires.grown;
      size = omega arith;
      room = refl;
      ticks = omega arith;
    })

pub unreachable-requires-in_default-find_code : goal.unreachable-requires-in_default-find_code
unreachable-requires-in_default-find_code g c =
    let t = c.args.table.now in
    let are = c.holds.ensures.listable in
    let at = event_at event_of _ _ _ _ c.events-event-items.ensures.events c.loop-event-test.true c.event-item.is in
    no_stray t are c.args.cursor.now _ c.requires.listed _ _ at (no_code_for t _ _ _ c.universe.ensures c.atoms.ensures c.in_default-find_code.ensures.absent)

pub successor-requires-clause-grown : goal.successor-requires-clause-grown
successor-requires-clause-grown g c =
    let t = c.args.table.now in
    let are = c.holds.ensures.listable in
    let at = event_at event_of _ _ _ _ c.events-event-items.ensures.events c.loop-event-test.true c.event-item.is in
    let code : IsCode (lists t) (event_of c.event-item.result) (code_of c.in-Some-find_code.code) = code_for t _ _ _ _ c.universe.ensures c.atoms.ensures c.in-Some-find_code.ensures.found in
    let i = c.loop-event.invariant in
    let takes = takes_code t are c.args.cursor.now _ c.requires.listed _ _ _ _ _ _ at i.codes code i.leads i.size in
    let r = grown_for t are _ _ _ i.leads in
    let w = weight_within t are _ _ _ takes in
    let b = r.2 in
    (r.0, r.1, omega arith)

pub unreachable-requires-in_default-successor : goal.unreachable-requires-in_default-successor
unreachable-requires-in_default-successor g c =
    let t = c.args.table.now in
    let are = c.holds.ensures.listable in
    let at = event_at event_of _ _ _ _ c.events-event-items.ensures.events c.loop-event-test.true c.event-item.is in
    let code : IsCode (lists t) (event_of c.event-item.result) (code_of c.in-Some-find_code.code) = code_for t _ _ _ _ c.universe.ensures c.atoms.ensures c.in-Some-find_code.ensures.found in
    let i = c.loop-event.invariant in
    let takes = takes_code t are c.args.cursor.now _ c.requires.listed _ _ _ _ _ _ at i.codes code i.leads i.size in
    takes.leads.allowed c.in_default-successor.ensures.none

pub push_step-requires-clause-codes : goal.push_step-requires-clause-codes
push_step-requires-clause-codes g c =
    let t = c.args.table.now in
    let are = c.holds.ensures.listable in
    let at = event_at event_of _ _ _ _ c.events-event-items.ensures.events c.loop-event-test.true c.event-item.is in
    let code : IsCode (lists t) (event_of c.event-item.result) (code_of c.in-Some-find_code.code) = code_for t _ _ _ _ c.universe.ensures c.atoms.ensures c.in-Some-find_code.ensures.found in
    let i = c.loop-event.invariant in
    let takes = takes_code t are c.args.cursor.now _ c.requires.listed _ _ _ _ _ _ at i.codes code i.leads i.size in
    room_for t are _ _ _ _ _ i.leads takes c.in-Some-successor.ensures.some

pub loop-event-preserved : goal.loop-event-preserved
loop-event-preserved g c =
    let t = c.args.table.now in
    let are = c.holds.ensures.listable in
    let at = event_at event_of _ _ _ _ c.events-event-items.ensures.events c.loop-event-test.true c.event-item.is in
    let code : IsCode (lists t) (event_of c.event-item.result) (code_of c.in-Some-find_code.code) = code_for t _ _ _ _ c.universe.ensures c.atoms.ensures c.in-Some-find_code.ensures.found in
    let i = c.loop-event.invariant in
    let takes = takes_code t are c.args.cursor.now _ c.requires.listed _ _ _ _ _ _ at i.codes code i.leads i.size in
    let w = weight_within t are _ _ _ takes in
    let z = i.size in
    let q = c.successor.ensures.ticks in
    let k = i.ticks in
    let new = code_of c.in-Some-find_code.code in
    rw c.push_step.ensures (record {
      codes = codes_more t are c.args.cursor.now _ c.requires.listed _ _ _ _ at i.codes code;
      left = i.left - weight new;
      leads = step_on t are _ _ _ _ _ i.leads takes c.in-Some-successor.ensures.some;
      size = omega (arith, nodes-append c.loop-event.path.codes (new ∷ []), nodes-cons new []);
      room = i.room;
      ticks = omega arith;
    })

pub returns-clause-listed : goal.returns-clause-listed
returns-clause-listed g c =
    let es = events c.args.cursor.now in
    let e : c.loop-event.event-index ≡ length es = omega (arith, length-map c.events-event-items.result.now event_of, ap length c.events-event-items.ensures.events) in
    (arrived c.args.table.now c.holds.ensures.listable c.args.cursor.now _ c.requires.listed c.loop-event.path.codes
    (subst (λ k. AreCodes (lists c.args.table.now) (take k es) c.loop-event.path.codes) e c.loop-event.invariant.codes)).1

pub returns-clause-ticks : goal.returns-clause-ticks
returns-clause-ticks g c =
    let e : c.loop-event.event-index ≡ length (events c.args.cursor.now) = omega (arith, length-map c.events-event-items.result.now event_of, ap length c.events-event-items.ensures.events) in
    let f = few_events c.args.table.now c.holds.ensures.listable c.args.cursor.now _ c.requires.listed in
    let k = c.loop-event.invariant.ticks in
    omega arith
