use Rattle.std.proofs.Common.{◌≡◌, ◌+◌, ◌-◌, get_or, refl, arith}
use Rattle.transitions.proofs.Keeping.{keeps_then}
use Rattle.transitions.proofs.Lists.{get_here}
use Rattle.feasibility.proofs.Marking.{are_alive, closed_at, marked_more, ready_at}
use Rattle.feasibility.proofs.explorer.Explorer.mark.Goals as goal

pub mark_list-requires : goal.mark_list-requires
mark_list-requires c =
    let k = c.args.self.now.level - c.loop-rest.rest in
    let g = c.requires.grown in
    let a = g.all_levels in
    let t = c.loop-rest-test.true in
    let n = get_or c.args.levels.now k 0 in
    let is = get_here c.args.levels.now k 0 (omega (arith, a, t)) in
    let sum : k + c.loop-rest.rest ≡ c.args.self.now.level = omega (arith, a, t) in
    let v = c.loop-rest.invariant in
    let many = v.1.many in (
      refl,
      (
        g.exploring,
        (
          are_alive c.args.self.now g.exploring,
          (
            closed_at c.args.self.now c.args.frees.now c.args.rows.now c.args.levels.now g k c.loop-rest.rest n sum is,
            (
              (g.level k n is).most,
              (
                ready_at c.args.self.now c.args.frees.now c.args.rows.now c.args.levels.now g k c.loop-rest.rest n sum is c.loop-rest.marks v.0 v.1,
                (v.0, many),
              ),
            ),
          ),
        ),
      ),
    )

pub loop-rest-preserved : goal.loop-rest-preserved
loop-rest-preserved c =
    let k = c.args.self.now.level - c.loop-rest.rest in
    let a = c.requires.grown.all_levels in
    let t = c.loop-rest-test.true in (
      c.in_ok-mark_list.ensures.right,
      marked_more c.args.self.now c.args.levels.now c.loop-rest.rest k (get_or c.args.levels.now k 0) c.loop-rest.marks c.mark_list.new.marks c.loop-rest.invariant.1 c.in_ok-mark_list.ensures.stay
          c.in_ok-mark_list.ensures.all (get_here c.args.levels.now k 0 (omega (arith, a, t))) (omega (arith, a, t)),
      keeps_then c.args.marks.now c.loop-rest.marks c.mark_list.new.marks c.loop-rest.invariant.2 c.mark_list.ensures.kept,
    )

pub returns-in_err-mark_list-clause-kept : goal.returns-in_err-mark_list-clause-kept
returns-in_err-mark_list-clause-kept c = keeps_then c.args.marks.now c.loop-rest.marks c.mark_list.new.marks c.loop-rest.invariant.2 c.mark_list.ensures.kept
