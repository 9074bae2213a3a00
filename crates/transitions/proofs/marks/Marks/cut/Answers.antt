use Rattle.std.proofs.Common.{List, Bool, take, set, ◌∙◌, ap, arith}
use Rattle.transitions.proofs.Lists.{cut_step, length-set_same}
use Rattle.transitions.proofs.marks.Marks.cut.Goals as goal

pub loop-place-preserved : goal.loop-place-preserved
loop-place-preserved c =
    let v = c.loop-place.invariant in
    let t = c.loop-place-test.true in
    let e = c.len-place-end.ensures in
    let k = c.self.inside.lists.ok.0 in (
      v.0,
      length-set_same c.loop-place.self-inside.lists.items c.loop-place.place c.truncate-in-loop-place.new.self ∙ v.1,
      ap (λ (z : List Bool). set c.loop-place.self-inside.lists.items c.loop-place.place z) (c.truncate-in-loop-place.ensures ∙ ap (λ (z : List Bool). take c.args.count z) c.index_mut.ensures.value) ∙
          cut_step c.args.count c.self.inside.lists.items c.loop-place.self-inside.lists.items c.loop-place.place c.index_mut.result.now (omega (arith, t, e, k)) v.2,
    )
