use Rattle.std.proofs.Common.{List, ◌≡◌, ◌+◌, ◌-◌, length, arith, sym, ap, subst, option_map}
use Rattle.skeleton.specs.Views.{code_of}
use Rattle.transitions.specs.declared.arc.Arc.{Arc}
use Rattle.transitions.specs.Searches.{AreListed, IsInOrder, IsLeastMarked, NoneMarked}
use Rattle.transitions.proofs.Lists.{same_row}
use Rattle.feasibility.proofs.Departing.{in_order, none_so}
use Rattle.feasibility.proofs.Shortness.{row_short}
use Rattle.feasibility.proofs.Taken.{node_is, none_goes, some_so}
use Rattle.feasibility.proofs.next_codes.node_taken.Goals as goal

pub next_marked-requires-clause-order : goal.next_marked-requires-clause-order
next_marked-requires-clause-order g c =
    let is : c.args.rest ≡ c.args.rest - 1 + 1 = (let z = c.if-rest-eq0.false in omega (arith, z)) in
    let r = c.requires.ready.node (c.args.rest - 1) is in
    let e = same_row c.args.rows.now c.args.id.0 r.row c.get.result.now r.is_row c.get.ensures in
    subst (λ (xs : List Arc). IsInOrder xs) (sym e) (in_order c.args.explorer.now c.args.id.0 r.row r.leads)

pub next_marked-requires-clause-listed : goal.next_marked-requires-clause-listed
next_marked-requires-clause-listed g c =
    let is : c.args.rest ≡ c.args.rest - 1 + 1 = (let z = c.if-rest-eq0.false in omega (arith, z)) in
    let r = c.requires.ready.node (c.args.rest - 1) is in
    let e = same_row c.args.rows.now c.args.id.0 r.row c.get.result.now r.is_row c.get.ensures in
    subst (λ (xs : List Arc). AreListed xs c.args.marks.now (c.args.rest - 1)) (sym e)
    (record { list = r.list; is = r.is_list; within = r.within })

pub returns-else-rest-eq0-clause-some : goal.returns-else-rest-eq0-clause-some
returns-else-rest-eq0-clause-some g c =
    let is : c.args.rest ≡ c.args.rest - 1 + 1 = (let z = c.if-rest-eq0.false in omega (arith, z)) in
    let r = c.requires.ready.node (c.args.rest - 1) is in
    let e = same_row c.args.rows.now c.args.id.0 r.row c.get.result.now r.is_row c.get.ensures in
    some_so c.next_marked.result
    (λ found h. node_is c.args.explorer.now c.requires.exploring c.args.rows.now c.args.marks.now c.args.id.0 c.args.rest (c.args.rest - 1) (option_map code_of c.args.bound) is r (code_of found.0)
    found.1.0 (subst (λ (xs : List Arc). IsLeastMarked xs c.args.marks.now (c.args.rest - 1) (option_map code_of c.args.bound) (code_of found.0) found.1.0) e h))
    c.next_marked.ensures.some

pub returns-else-rest-eq0-clause-none : goal.returns-else-rest-eq0-clause-none
returns-else-rest-eq0-clause-none g c =
    let is : c.args.rest ≡ c.args.rest - 1 + 1 = (let z = c.if-rest-eq0.false in omega (arith, z)) in
    let r = c.requires.ready.node (c.args.rest - 1) is in
    let e = same_row c.args.rows.now c.args.id.0 r.row c.get.result.now r.is_row c.get.ensures in
    none_so c.next_marked.result
    (λ h. none_goes c.args.explorer.now c.requires.exploring c.args.rows.now c.args.marks.now c.args.id.0 c.args.rest (c.args.rest - 1) (option_map code_of c.args.bound) is r
    (subst (λ (xs : List Arc). NoneMarked xs c.args.marks.now (c.args.rest - 1) (option_map code_of c.args.bound)) e h))
    c.next_marked.ensures.none

pub returns-else-rest-eq0-clause-ticks : goal.returns-else-rest-eq0-clause-ticks
returns-else-rest-eq0-clause-ticks g c =
    let is : c.args.rest ≡ c.args.rest - 1 + 1 = (let z = c.if-rest-eq0.false in omega (arith, z)) in
    let r = c.requires.ready.node (c.args.rest - 1) is in
    let e = same_row c.args.rows.now c.args.id.0 r.row c.get.result.now r.is_row c.get.ensures in
    let s = row_short c.args.explorer.now c.requires.exploring c.args.id.0 r.row r.leads in
    let n = ap (λ (xs : List Arc). length xs) e in
    let t = c.next_marked.ensures.ticks in
    omega (arith, s, n, t)
