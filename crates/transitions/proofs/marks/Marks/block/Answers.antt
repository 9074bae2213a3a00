use Rattle.std.proofs.Common.{◌≡◌, ◌+◌, ◌-◌, ◌↔◌, IsTrue, sym, subst, ◌∙◌, ap, arith}
use Rattle.std.proofs.lemmas.Option.{slice_get_within}
use Rattle.transitions.specs.Marked.{FinishesFirst, end_of}
use Rattle.transitions.proofs.Finishing.{block_end, block_push}
use Rattle.transitions.proofs.marks.Marks.block.Goals as goal

pub node_mark-requires : goal.node_mark-requires
node_mark-requires g c =
    let r = (c.requires.1.1.0.each c.loop-id.id c.loop-id-test.true).node (c.args.rest - 1) (let h = c.requires.1.0 in omega (arith, h)) in
    (c.requires.0, (slice_get_within c.args.rows.now c.loop-id.id r.row r.is_row, (slice_get_within c.args.self.now (c.args.rest - 1) r.list r.is_list, r)))

pub loop-id-preserved : goal.loop-id-preserved
loop-id-preserved g c =
    let v = c.loop-id.invariant in
    let h = (c.requires.1.1.0.each c.loop-id.id c.loop-id-test.true).held in
    let n : c.args.rest - 1 + 1 ≡ c.args.rest = (let p = c.requires.1.0 in omega (arith, p)) in
    let f = subst (λ r. IsTrue c.node_mark.result ↔ FinishesFirst g.of r c.loop-id.id) n c.node_mark.ensures in
    let m = subst (λ r. IsTrue c.node_mark.result ↔ FinishesFirst g.of r (end_of c.loop-id.block)) (sym v.2)
    (subst (λ n. IsTrue c.node_mark.result ↔ FinishesFirst g.of c.args.rest n) (sym v.1) f) in
    let e = v.1 in (
      block_push g.of c.loop-id.block c.push.new.self c.node_mark.result c.in_ok-push.ensures.rest c.in_ok-push.ensures.start c.in_ok-push.ensures.marks v.0 (omega (arith, h, e)) m,
      block_end g.of c.loop-id.block c.push.new.self c.node_mark.result c.in_ok-push.ensures.start c.in_ok-push.ensures.marks ∙ ap (λ n. n + 1) v.1,
      c.in_ok-push.ensures.rest ∙ v.2,
      c.in_ok-push.ensures.start ∙ v.3,
    )
