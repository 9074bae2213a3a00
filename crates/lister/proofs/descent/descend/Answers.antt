use Rattle.std.proofs.Common.{◌+◌, ◌*◌, length-append, arith, ap, ◌∷◌, []}
use Rattle.rng_model.specs.Codes.{nodes as node_count}
use Rattle.rng_model.specs.Universe.{event_count}
use Rattle.table_laws.proofs.Rows.{nodes-append, nodes-cons}
use Rattle.skeleton.specs.Views.{code_of}
use Rattle.feasibility.specs.Tables.{lists}
use Rattle.lister.specs.Paths.{with_step}
use Rattle.lister.proofs.Steps.{grown_for, something, room_for, step_on, least_on, weight_within}
use Rattle.lister.proofs.descent.descend.Goals as goal

pub next_code-requires-clause-grown : goal.next_code-requires-clause-grown
next_code-requires-clause-grown g c = grown_for c.args.table.now c.holds.ensures.listable _ _ _ c.loop-rest.invariant.leads

pub unreachable-requires : goal.unreachable-requires
unreachable-requires g c =
    something c.args.table.now c.holds.ensures.listable _ _ _ c.loop-rest.invariant.leads c.loop-rest-test.true c.in_default.ensures.none

pub push_step-requires-clause-codes : goal.push_step-requires-clause-codes
push_step-requires-clause-codes g c =
    let t = c.in-Some.ensures.some in
    room_for c.args.table.now c.holds.ensures.listable _ _ _ _ _ c.loop-rest.invariant.leads t.takes t.leads

pub loop-rest-smaller : goal.loop-rest-smaller
loop-rest-smaller g c =
    let t = c.in-Some.ensures.some in
    let r = room_for c.args.table.now c.holds.ensures.listable _ _ _ _ _ c.loop-rest.invariant.leads t.takes t.leads in
    let e = length-append c.loop-rest.path.codes (code_of c.in-Some.code ∷ []) in
    rw c.push_step.ensures (omega arith)

pub loop-rest-preserved : goal.loop-rest-preserved
loop-rest-preserved g c =
    let t = c.in-Some.ensures.some in
    let i = c.loop-rest.invariant in
    let p = c.loop-rest.path in
    let n = node_count c.args.path.now.codes + c.args.left in
    let k = weight_within c.args.table.now c.holds.ensures.listable _ _ _ t.takes in
    let w = c.nodes-rest.ensures in
    let more = with_step p c.loop-rest.id.0 (code_of c.in-Some.code) in
    let a = nodes-append p.codes (code_of c.in-Some.code ∷ []) in
    let b = nodes-cons (code_of c.in-Some.code) [] in
    let l = length-append p.codes (code_of c.in-Some.code ∷ []) in
    let m = c.next_code.ensures.ticks in
    rw (c.push_step.ensures, w) (record {
      down = least_on c.args.table.now c.holds.ensures.listable n _ _ _ _ _ _ i.down i.leads i.size c.loop-rest-test.true t;
      leads = step_on c.args.table.now c.holds.ensures.listable _ _ _ _ _ i.leads t.takes t.leads;
      size = (let s = i.size in omega arith);
      ticks = (let s = i.ticks in omega (arith, ap (λ k. 2 * event_count (lists c.args.table.now) * k) l));
    })
