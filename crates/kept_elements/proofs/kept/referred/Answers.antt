use Rattle.std.proofs.Common.{◌+◌, true, false, arith, sym, ap, subst}
use Rattle.kept_elements.specs.Numbering.{AreReferred}
use Rattle.kept_elements.proofs.Ascending.{referred_ref, referred_other, referred_unmarked}
use Rattle.kept_elements.proofs.Lists.{read_or}
use Rattle.kept_elements.proofs.kept.referred.Goals.{then-marks-id+in-Ref, then-marks-id+in_default, else-marks-id}
use Rattle.kept_elements.proofs.kept.referred.Goals as goal

pub loop-id-preserved : goal.loop-id-preserved
loop-id-preserved c = elim c.if-marks-id.branch [
  | then-marks-id+in-Ref w ↦
      let n = rw w.in-Ref.is at w.node.ensures.tree in
      subst (AreReferred c.args.graph.now c.args.forms.now.pool c.args.forms.now.forms.items c.args.marks.now (c.loop-id.id + 1)) (sym (ap (λ v. v.items) w.elements-is))
      (referred_ref c.args.graph.now c.args.forms.now.pool c.args.forms.now.forms.items c.args.marks.now c.loop-id.id w.in-Ref.number c.loop-id.elements.items c.requires.ready c.requires.wanted c.loop-id.invariant
      (read_or c.args.marks.now c.loop-id.id false true (omega (arith, c.loop-id-test.true)) w.if-marks-id.true) n)
  | then-marks-id+in_default w ↦
      subst (AreReferred c.args.graph.now c.args.forms.now.pool c.args.forms.now.forms.items c.args.marks.now (c.loop-id.id + 1)) (sym (ap (λ v. v.items) w.elements-is))
      (referred_other c.args.graph.now c.args.forms.now.pool c.args.forms.now.forms.items c.args.marks.now c.loop-id.id c.loop-id.elements.items w.node.result c.loop-id.invariant w.node.ensures w.in_default.not-Ref)
  | else-marks-id w ↦
      subst (AreReferred c.args.graph.now c.args.forms.now.pool c.args.forms.now.forms.items c.args.marks.now (c.loop-id.id + 1)) (sym (ap (λ v. v.items) w.elements-is))
      (referred_unmarked c.args.graph.now c.args.forms.now.pool c.args.forms.now.forms.items c.args.marks.now c.loop-id.id c.loop-id.elements.items c.loop-id.invariant
      (read_or c.args.marks.now c.loop-id.id false false (omega (arith, c.loop-id-test.true)) w.if-marks-id.false))
]
