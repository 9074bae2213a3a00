use Rattle.std.proofs.Common.{length, ◌+◌, refl, arith, rules}
use Rattle.feasibility.specs.Exploring.{IsRightly, groups_of, names}
use Rattle.feasibility.specs.Grown.{row_total}
use Rattle.feasibility.proofs.Adding.{finds_itself, on_err, rows_found, rows_then}
use Rattle.feasibility.proofs.Cutting.{row_cost, times}
use Rattle.feasibility.proofs.Leading.{reached_before}
use Rattle.feasibility.proofs.Moving.{rightly_on}
use Rattle.feasibility.proofs.growing.find_rows.Goals as goal

pub loop-alloc-init : goal.loop-alloc-init
loop-alloc-init g c = record {
  adds = rows_found c.args.explorer.now c.args.explorer.now c.args.rows.now (finds_itself c.args.explorer.now) c.requires.exploring c.requires.rows;
  none = λ z. z;
  ticks = omega arith;
}

pub add_row-requires-clause-left : goal.add_row-requires-clause-left
add_row-requires-clause-left g c =
    let m = c.loop-alloc.invariant.adds.finds.longer in
    omega (arith, m, c.requires.end, c.loop-alloc-test.true, c.len.ensures)

pub add_row-requires-clause-reached : goal.add_row-requires-clause-reached
add_row-requires-clause-reached g c =
    reached_before c.args.explorer.now c.loop-alloc.explorer (length c.loop-alloc.rows) 1 c.loop-alloc.invariant.adds.finds (omega (arith, c.requires.end, c.loop-alloc-test.true, c.len.ensures))
    (c.requires.reached (length c.loop-alloc.rows) (omega (arith, c.loop-alloc-test.true, c.len.ensures)))

pub loop-alloc-preserved : goal.loop-alloc-preserved
loop-alloc-preserved g c = record {
  adds =
      rows_then c.args.explorer.now c.loop-alloc.explorer c.add_row.new.explorer c.args.rows.now c.loop-alloc.rows c.add_row.new.rows c.loop-alloc.invariant.adds c.add_row.ensures.adds;
  none = λ z. absurd (omega (arith, z, c.requires.end, c.loop-alloc-test.true, c.len.ensures));
  ticks =
      row_cost c.args.explorer.now c.loop-alloc.explorer c.loop-alloc.invariant.adds.finds _ _ _ _ _ _ c.loop-alloc.invariant.ticks c.add_row.ensures.ticks c.in_ok-add_row.ensures.one;
}

pub loop-alloc-smaller : goal.loop-alloc-smaller
loop-alloc-smaller g c = omega (arith, c.loop-alloc-test.true, c.len.ensures, c.in_ok-add_row.ensures.one)

pub returns-in_err-add_row-clause-adds : goal.returns-in_err-add_row-clause-adds
returns-in_err-add_row-clause-adds g c =
    rows_then c.args.explorer.now c.loop-alloc.explorer c.add_row.new.explorer c.args.rows.now c.loop-alloc.rows c.add_row.new.rows c.loop-alloc.invariant.adds c.add_row.ensures.adds

pub returns-in_err-add_row-clause-none : goal.returns-in_err-add_row-clause-none
returns-in_err-add_row-clause-none g c = λ z. absurd (omega (arith, z, c.requires.end, c.loop-alloc-test.true, c.len.ensures))

pub returns-in_err-add_row-clause-full : goal.returns-in_err-add_row-clause-full
returns-in_err-add_row-clause-full g c =
    let h : IsRightly c.args.explorer.now c.in_err-add_row.field-0.0 =
    rightly_on c.args.explorer.now c.loop-alloc.explorer c.in_err-add_row.field-0.0 c.loop-alloc.invariant.adds.finds c.in_err-add_row.ensures.full in
    search rules

pub returns-in_err-add_row-clause-tick : goal.returns-in_err-add_row-clause-tick
returns-in_err-add_row-clause-tick g c =
    let r = row_total (names c.args.explorer.now) (groups_of c.args.explorer.now) in
    let a = row_cost c.args.explorer.now c.loop-alloc.explorer c.loop-alloc.invariant.adds.finds _ _ _ _ _ (length c.loop-alloc.rows + 1) c.loop-alloc.invariant.ticks c.add_row.ensures.ticks refl in
    let b = times r (length c.loop-alloc.rows + 1) c.args.end (omega (arith, c.loop-alloc-test.true, c.len.ensures)) in
    on_err c.from_residual.result (omega (arith, a, b))

pub returns-clause-all : goal.returns-clause-all
returns-clause-all g c = omega (arith, c.loop-alloc-test.false, c.len.ensures)
