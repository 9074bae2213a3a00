use Rattle.std.proofs.Common.{◌≡◌, List, [], ◌∷◌, ◌++◌, length, sym, ◌∙◌, ap, subst, arith}
use Rattle.transitions.specs.declared.arc.Arc.{Arc}
use Rattle.transitions.specs.Arcs.{IsRow}
use Rattle.feasibility.specs.Exploring.{IsReachedBefore, at, found, names, schema}
use Rattle.feasibility.specs.Growing.{AddsRows}
use Rattle.feasibility.proofs.Adding.{rows_found, rows_one}
use Rattle.feasibility.proofs.growing.add_row.Goals as goal

pub fill_row-requires-clause-reached : goal.fill_row-requires-clause-reached
fill_row-requires-clause-reached g c =
    let e : length c.args.rows.now ≡ c.len.result = omega (arith, c.len.ensures) in
    subst (λ n. IsReachedBefore c.args.explorer.now n 1) e c.requires.reached

pub returns-in_err-fill_row-clause-adds : goal.returns-in_err-fill_row-clause-adds
returns-in_err-fill_row-clause-adds g c =
    rows_found c.args.explorer.now c.fill_row.new.self c.args.rows.now c.fill_row.ensures.finds c.fill_row.ensures.exploring c.requires.rows

pub returns-in_err-push-clause-adds : goal.returns-in_err-push-clause-adds
returns-in_err-push-clause-adds g c =
    subst (λ (xs : List (List Arc)). AddsRows c.args.explorer.now c.fill_row.new.self c.args.rows.now xs) (sym c.in_err-push.ensures.err)
    (rows_found c.args.explorer.now c.fill_row.new.self c.args.rows.now c.fill_row.ensures.finds c.fill_row.ensures.exploring c.requires.rows)

pub returns-clause-adds : goal.returns-clause-adds
returns-clause-adds g c =
    let e : c.len.result ≡ length c.args.rows.now = omega (arith, c.len.ensures) in
    subst (λ (xs : List (List Arc)). AddsRows c.args.explorer.now c.fill_row.new.self c.args.rows.now xs)
    (sym (c.in_ok-push.ensures.ok ∙ ap (λ (arcs : List Arc). c.args.rows.now ++ arcs ∷ []) c.arcs.ensures))
    (rows_one c.args.explorer.now c.fill_row.new.self c.args.rows.now c.fill_row.new.row c.fill_row.ensures.finds c.fill_row.ensures.exploring c.requires.rows c.requires.left
    (subst (λ n. IsRow (schema c.fill_row.new.self) (names c.fill_row.new.self) (found c.fill_row.new.self) (at c.fill_row.new.self n) c.fill_row.new.row) e c.in_ok-fill_row.ensures.row))
