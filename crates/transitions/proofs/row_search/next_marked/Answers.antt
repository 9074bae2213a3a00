use Rattle.std.proofs.Common.{arith, option_map}
use Rattle.skeleton.specs.Views.{code_of}
use Rattle.transitions.proofs.Lists.{get_here}
use Rattle.transitions.proofs.Searching.{found, none_here, none_last}
use Rattle.transitions.proofs.row_search.next_marked.Goals as goal

pub returns-in-Some-clause-some : goal.returns-in-Some-clause-some
returns-in-Some-clause-some g c =
    found c.args.row.now c.args.marks.now c.args.left (option_map code_of c.args.bound) c.loop-place.place _
    (get_here c.args.row.now c.loop-place.place _ (omega (arith, c.loop-place-test.true))) c.loop-place.invariant.0 c.requires.order
    (code_of c.in-Some.taken.0) c.in-Some.taken.1.0 c.in-Some.ensures.some

pub loop-place-preserved : goal.loop-place-preserved
loop-place-preserved g c =
    let v = c.loop-place.invariant in
    let a = v.1 in
    let b = v.2 in
    let t = c.probe.ensures.ticks in (
      none_here c.args.row.now c.args.marks.now c.args.left (option_map code_of c.args.bound) c.loop-place.place _
          (get_here c.args.row.now c.loop-place.place _ (omega (arith, c.loop-place-test.true))) v.0 c.in_default.ensures.none,
      omega (arith, a, t),
      omega (arith, b, t),
    )

pub returns-clause-none : goal.returns-clause-none
returns-clause-none g c =
    none_last c.args.row.now c.args.marks.now c.args.left (option_map code_of c.args.bound) c.loop-place.place
    (omega (arith, c.loop-place-test.false)) c.loop-place.invariant.0
