use Rattle.std.proofs.Common.{◌+◌, ◌*◌, length, length-append, arith, ap, ◌∷◌, [], ◌∙◌}
use Rattle.std.proofs.Math.Nat.{mul-le-mul_left}
use Rattle.rng_model.specs.Universe.{event_count}
use Rattle.table_laws.proofs.Rows.{nodes-append, nodes-cons}
use Rattle.skeleton.specs.Views.{code_of}
use Rattle.feasibility.specs.Tables.{lists}
use Rattle.lister.proofs.Steps.{grown_for, room_for, step_on, weight_within}
use Rattle.lister.proofs.Retreating.{start_back, leads_back, size_back, went_back, turned, states_few}
use Rattle.lister.proofs.descent.go_back.Goals as goal

pub loop-id-init : goal.loop-id-init
loop-id-init g c =
    record { back = start_back c.args.table.now c.holds.ensures.listable c.args.path.now c.requires; ticks = omega arith }

pub overflow_add-rest : goal.overflow_add-rest
overflow_add-rest g c =
    let now = c.loop-id.rest + c.nodes-rest.result in
    let z = size_back c.args.table.now c.holds.ensures.listable _ _ _ _ now _ _ c.requires c.loop-id.invariant.back c.in-Some.ensures.some (omega (arith, c.nodes-rest.ensures)) in
    let r = c.requires.room in
    let m = c.requires.most in
    omega arith

pub next_code-requires-clause-held : goal.next_code-requires-clause-held
next_code-requires-clause-held g c =
    let now = c.loop-id.rest + c.nodes-rest.result in
    (leads_back c.args.table.now c.holds.ensures.listable _ _ _ _ now _ _ c.requires c.loop-id.invariant.back c.in-Some.ensures.some (omega (arith, c.nodes-rest.ensures))).held

pub next_code-requires-clause-grown : goal.next_code-requires-clause-grown
next_code-requires-clause-grown g c =
    let t = c.args.table.now in
    let are = c.holds.ensures.listable in
    let now = c.loop-id.rest + c.nodes-rest.result in
    grown_for t are _ _ now (leads_back t are _ _ _ _ now _ _ c.requires c.loop-id.invariant.back c.in-Some.ensures.some (omega (arith, c.nodes-rest.ensures)))

pub push_step-requires-clause-codes : goal.push_step-requires-clause-codes
push_step-requires-clause-codes g c =
    let t = c.args.table.now in
    let are = c.holds.ensures.listable in
    let now = c.loop-id.rest + c.nodes-rest.result in
    let l = leads_back t are _ _ _ _ now _ _ c.requires c.loop-id.invariant.back c.in-Some.ensures.some (omega (arith, c.nodes-rest.ensures)) in
    let found = c.in-Some-next_code.ensures.some in
    room_for t are _ _ now _ _ l found.takes found.leads

pub returns-in-Some-next_code-clause-next : goal.returns-in-Some-next_code-clause-next
returns-in-Some-next_code-clause-next g c =
    rw c.push_step.ensures (turned c.args.table.now c.holds.ensures.listable _ _ _ _ _ _ _ c.requires c.loop-id.invariant.back c.in-Some.ensures.some (omega (arith, c.nodes-rest.ensures)) _ _
    c.in-Some-next_code.ensures.some)

pub returns-in-Some-next_code-clause-leads : goal.returns-in-Some-next_code-clause-leads
returns-in-Some-next_code-clause-leads g c =
    let t = c.args.table.now in
    let are = c.holds.ensures.listable in
    let now = c.loop-id.rest + c.nodes-rest.result in
    let l = leads_back t are _ _ _ _ now _ _ c.requires c.loop-id.invariant.back c.in-Some.ensures.some (omega (arith, c.nodes-rest.ensures)) in
    let found = c.in-Some-next_code.ensures.some in
    rw (c.push_step.ensures, c.nodes.ensures) (step_on t are _ _ now _ _ l found.takes found.leads)

pub returns-in-Some-next_code-clause-size : goal.returns-in-Some-next_code-clause-size
returns-in-Some-next_code-clause-size g c =
    let t = c.args.table.now in
    let are = c.holds.ensures.listable in
    let now = c.loop-id.rest + c.nodes-rest.result in
    let code = code_of c.in-Some-next_code.greater in
    let z = size_back t are _ _ _ _ now _ _ c.requires c.loop-id.invariant.back c.in-Some.ensures.some (omega (arith, c.nodes-rest.ensures)) in
    let w = weight_within t are _ now code c.in-Some-next_code.ensures.some.takes in
    rw (c.push_step.ensures, c.nodes.ensures) (omega (arith, nodes-append c.pop_step.new.self.codes (code ∷ []), nodes-cons code []))

pub returns-in-Some-next_code-clause-ticks : goal.returns-in-Some-next_code-clause-ticks
returns-in-Some-next_code-clause-ticks g c =
    let f = states_few c.args.table.now c.holds.ensures.listable c.args.path.now c.requires in
    let m = mul-le-mul_left (2 * event_count (lists c.args.table.now)) f in
    let i = c.loop-id.invariant.ticks in
    let n = ap length c.in-Some.ensures.some.states in
    let q = ap (λ k. 2 * event_count (lists c.args.table.now) * k) (n ∙ length-append c.pop_step.new.self.states (c.in-Some.id.0 ∷ [])) in
    let v = c.next_code.ensures.ticks in
    omega arith

pub loop-id-preserved : goal.loop-id-preserved
loop-id-preserved g c =
    let i = c.loop-id.invariant.ticks in
    let n = ap length c.in-Some.ensures.some.states in
    let q = ap (λ k. 2 * event_count (lists c.args.table.now) * k) (n ∙ length-append c.pop_step.new.self.states (c.in-Some.id.0 ∷ [])) in
    let v = c.next_code.ensures.ticks in
    record {
      back = went_back c.args.table.now c.holds.ensures.listable _ _ _ _ _ _ _ c.requires c.loop-id.invariant.back c.in-Some.ensures.some (omega (arith, c.nodes-rest.ensures)) c.in_default-next_code.ensures.none;
      ticks = omega arith;
    }

pub returns-clause-room : goal.returns-clause-room
returns-clause-room g c = c.pop_step.ensures.room ∙ c.loop-id.invariant.back.room

pub returns-clause-ticks : goal.returns-clause-ticks
returns-clause-ticks g c =
    let f = states_few c.args.table.now c.holds.ensures.listable c.args.path.now c.requires in
    let m = mul-le-mul_left (2 * event_count (lists c.args.table.now)) f in
    let i = c.loop-id.invariant.ticks in
    omega arith
