use Rattle.std.proofs.Common.{arith, rules}
use Rattle.feasibility.specs.Exploring.{IsRightly}
use Rattle.feasibility.proofs.Adding.{finds_itself, frees_found, frees_then}
use Rattle.feasibility.proofs.Moving.{rightly_on}
use Rattle.feasibility.proofs.growing.find_frees.Goals as goal

pub loop-explorer-init : goal.loop-explorer-init
loop-explorer-init g c = record {
  adds = frees_found c.args.explorer.now c.args.explorer.now c.args.frees.now.items (finds_itself c.args.explorer.now) c.requires.exploring c.requires.frees;
  none = λ z. z;
  ticks = omega arith;
}

pub loop-explorer-preserved : goal.loop-explorer-preserved
loop-explorer-preserved g c = record {
  adds =
      frees_then c.args.explorer.now c.loop-explorer.explorer c.add_free.new.explorer c.args.frees.now.items c.loop-explorer.frees.items c.add_free.new.frees.items c.loop-explorer.invariant.adds
      c.add_free.ensures.adds;
  none = λ z. absurd (let a = c.loop-explorer.invariant.none z in omega (arith, a, c.loop-explorer-test.true, c.len.ensures, c.count.ensures.count));
  ticks = omega (arith, c.loop-explorer.invariant.ticks, c.add_free.ensures.ticks, c.in_ok-add_free.ensures.one);
}

pub loop-explorer-smaller : goal.loop-explorer-smaller
loop-explorer-smaller g c =
    let l = c.add_free.ensures.adds.finds.limit in
    let f = c.loop-explorer.invariant.adds.exploring.few in
    omega (arith, l, f, c.loop-explorer-test.true, c.len.ensures, c.count.ensures.count, c.in_ok-add_free.ensures.one)

pub returns-in_err-add_free-clause-adds : goal.returns-in_err-add_free-clause-adds
returns-in_err-add_free-clause-adds g c =
    frees_then c.args.explorer.now c.loop-explorer.explorer c.add_free.new.explorer c.args.frees.now.items c.loop-explorer.frees.items c.add_free.new.frees.items c.loop-explorer.invariant.adds
    c.add_free.ensures.adds

pub returns-in_err-add_free-clause-none : goal.returns-in_err-add_free-clause-none
returns-in_err-add_free-clause-none g c = λ z. absurd (let a = c.loop-explorer.invariant.none z in omega (arith, a, c.loop-explorer-test.true, c.len.ensures, c.count.ensures.count))

pub returns-in_err-add_free-clause-full : goal.returns-in_err-add_free-clause-full
returns-in_err-add_free-clause-full g c =
    let h : IsRightly c.args.explorer.now c.in_err-add_free.field-0.0 =
    rightly_on c.args.explorer.now c.loop-explorer.explorer c.in_err-add_free.field-0.0 c.loop-explorer.invariant.adds.finds c.in_err-add_free.ensures.full in
    search rules

pub returns-in_err-add_free-clause-ticks : goal.returns-in_err-add_free-clause-ticks
returns-in_err-add_free-clause-ticks g c =
    let m = c.add_free.ensures.adds.finds.longer in
    omega (arith, m, c.loop-explorer.invariant.ticks, c.add_free.ensures.ticks, c.loop-explorer-test.true, c.len.ensures, c.count.ensures.count)

pub returns-clause-all : goal.returns-clause-all
returns-clause-all g c =
    let w = c.loop-explorer.invariant.adds.frees.within in
    omega (arith, w, c.loop-explorer-test.false, c.len.ensures, c.count.ensures.count)

pub returns-clause-ticks : goal.returns-clause-ticks
returns-clause-ticks g c =
    let w = c.loop-explorer.invariant.adds.frees.within in
    omega (arith, w, c.loop-explorer.invariant.ticks)
