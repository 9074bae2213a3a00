use Rattle.std.proofs.Common.{◌+◌, ◌↔◌, IsTrue, sym, ◌∙◌, ap, subst, arith}
use Rattle.transitions.specs.Marked.{Finishes}
use Rattle.transitions.proofs.Settling.{alone_pushed, length_pushed, listed_pushed, right_pushed}
use Rattle.transitions.proofs.marks.Marks.settle.Goals as goal

pub loop-id-preserved : goal.loop-id-preserved
loop-id-preserved g c =
    let v = c.loop-id.invariant in
    let t = c.loop-id-test.true in
    let few = c.requires.1.1.0.few in
    let k = c.args.block.now.marks.ok.0 in
    let e = c.len.ensures in
    let s = v.1 in
    let w = c.in_ok-push.ensures.ok in
    let rest = c.args.block.now.rest in
    let f = subst (λ n. IsTrue c.finishes-mark.result ↔ Finishes g.of rest n) (sym v.1) c.finishes-mark.ensures in (
      right_pushed rest c.loop-id.self c.push.new.self c.finishes-mark.result v.3 w g.of v.0 (omega (arith, t, few, k, s, e)) f,
      length_pushed rest c.loop-id.self c.push.new.self c.finishes-mark.result v.3 w ∙ ap (λ n. n + 1) v.1,
      alone_pushed rest c.loop-id.self c.push.new.self c.finishes-mark.result v.3 w c.args.self.now v.2,
      listed_pushed rest c.loop-id.self c.push.new.self c.finishes-mark.result v.3 w,
    )
