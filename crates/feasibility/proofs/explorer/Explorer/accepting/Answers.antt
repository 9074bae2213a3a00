use Rattle.std.proofs.Common.{◌+◌, ◌↔◌, IsTrue, refl, sym, subst, ◌∙◌, ap, arith}
use Rattle.transitions.specs.Marked.{end_of}
use Rattle.transitions.proofs.Finishing.{block_end, block_push, zero_first}
use Rattle.feasibility.specs.Exploring.{automaton}
use Rattle.feasibility.specs.Marking.{FinishesFirst}
use Rattle.feasibility.proofs.explorer.Explorer.accepting.Goals as goal

pub loop-id-preserved : goal.loop-id-preserved
loop-id-preserved c =
    let e = automaton c.args.self.now in
    let v = c.loop-id.invariant in
    let t = c.loop-id-test.true in
    let h = c.requires.most in
    let z = zero_first e c.loop-id.block.rest c.loop-id.id c.accepts.result v.2 c.accepts.ensures in
    let m = subst (λ n. IsTrue c.accepts.result ↔ FinishesFirst c.args.self.now c.loop-id.block.rest n) (sym v.1) z in
    let k = v.1 in (
      block_push e c.loop-id.block c.push.new.self c.accepts.result c.in_ok-push.ensures.rest c.in_ok-push.ensures.start c.in_ok-push.ensures.marks v.0 (omega (arith, h, k, t)) m,
      block_end e c.loop-id.block c.push.new.self c.accepts.result c.in_ok-push.ensures.start c.in_ok-push.ensures.marks ∙ ap (λ n. n + 1) v.1,
      c.in_ok-push.ensures.rest ∙ v.2,
      c.in_ok-push.ensures.start ∙ v.3,
    )
