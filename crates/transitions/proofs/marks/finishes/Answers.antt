use Rattle.std.proofs.Common.{length, refl, sym, ◌∙◌, ap, arith, Some, None, true≢false}
use Rattle.transitions.specs.Bits.{list_of}
use Rattle.transitions.proofs.Finishing.{first_finishes, dead_end, free_less, mark_of, passes}
use Rattle.transitions.proofs.Lists.{get_here}
use Rattle.transitions.proofs.marks.finishes.Goals as goal

pub returns-then-mark : goal.returns-then-mark
returns-then-mark g c =
    let m = mark_of g.of c.args.block.now c.walk.id (length (list_of c.args.marks.now c.args.block.now.rest)) c.mark.result c.requires.1.1.1.1.0 c.requires.1.1.1.1.1.0 (let t = c.walk-test.true in let e = c.len.ensures in omega (arith, t, e)) c.mark.ensures in
    (λ _. c.walk.invariant.1.1 (first_finishes g.of c.args.block.now.rest c.walk.id (m.0 c.if-mark.true)), λ _. refl)

pub walk-smaller : goal.walk-smaller
walk-smaller g c = free_less g.of c.requires.0 c.walk.id c.in-Some.next (c.requires.1.0.free c.walk.id _ (get_here c.args.frees.now c.walk.id None (let m = c.requires.1.0.most in let w = c.walk.invariant.0 in omega (arith, m, w)) ∙ ap Some c.in-Some.is))

pub walk-preserved : goal.walk-preserved
walk-preserved g c =
    let m = mark_of g.of c.args.block.now c.walk.id (length (list_of c.args.marks.now c.args.block.now.rest)) c.mark.result c.requires.1.1.1.1.0 c.requires.1.1.1.1.1.0 (let t = c.walk-test.true in let e = c.len.ensures in omega (arith, t, e)) c.mark.ensures in (
      c.requires.1.0.stays c.walk.id c.in-Some.next c.walk.invariant.0 (get_here c.args.frees.now c.walk.id None (let m = c.requires.1.0.most in let w = c.walk.invariant.0 in omega (arith, m, w)) ∙ ap Some c.in-Some.is),
      passes g.of c.requires.0 c.args.block.now.rest c.args.from c.walk.id c.in-Some.next c.mark.result (c.requires.1.0.free c.walk.id _ (get_here c.args.frees.now c.walk.id None (let m = c.requires.1.0.most in let w = c.walk.invariant.0 in omega (arith, m, w)) ∙ ap Some c.in-Some.is)) m c.if-mark.false c.walk.invariant.1,
    )

pub returns-in-None : goal.returns-in-None
returns-in-None g c =
    let m = mark_of g.of c.args.block.now c.walk.id (length (list_of c.args.marks.now c.args.block.now.rest)) c.mark.result c.requires.1.1.1.1.0 c.requires.1.1.1.1.1.0 (let t = c.walk-test.true in let e = c.len.ensures in omega (arith, t, e)) c.mark.ensures in
    (λ t. absurd (true≢false (sym t)), λ f. absurd (true≢false (sym (m.1 (dead_end g.of c.args.block.now.rest c.walk.id (c.requires.1.0.free c.walk.id _ (get_here c.args.frees.now c.walk.id None (let m = c.requires.1.0.most in let w = c.walk.invariant.0 in omega (arith, m, w)) ∙ ap Some c.in-None.is)) (c.walk.invariant.1.0 f))) ∙ c.if-mark.false)))
