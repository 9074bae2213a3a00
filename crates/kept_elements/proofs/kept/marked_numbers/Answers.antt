use Rattle.std.proofs.Common.{◌+◌, true, false, arith, sym, ◌∙◌, ap, subst}
use Rattle.kept_elements.specs.Numbering.{AreNumbers}
use Rattle.kept_elements.proofs.Ascending.{no_numbers, numbers_skip, numbers_take, all_numbers}
use Rattle.kept_elements.proofs.Lists.{read_or}
use Rattle.kept_elements.proofs.kept.marked_numbers.Goals.{then-marks-number+in_ok-push, else-marks-number}
use Rattle.kept_elements.proofs.kept.marked_numbers.Goals as goal

pub loop-number-init : goal.loop-number-init
loop-number-init c = subst (AreNumbers c.args.marks.now 0) (sym c.new-numbers.ensures.items) (no_numbers c.args.marks.now)

pub loop-number-preserved : goal.loop-number-preserved
loop-number-preserved c = elim c.if-marks-number.branch [
  | then-marks-number+in_ok-push w ↦
      subst (AreNumbers c.args.marks.now (c.loop-number.number + 1)) (sym (ap (λ v. v.items) w.numbers-is ∙ w.in_ok-push.ensures.items))
      (numbers_take c.args.marks.now c.loop-number.number c.loop-number.numbers.items c.loop-number.invariant
      (read_or c.args.marks.now c.loop-number.number _ true (omega (arith, c.loop-number-test.true)) w.if-marks-number.true))
  | else-marks-number w ↦
      subst (AreNumbers c.args.marks.now (c.loop-number.number + 1)) (sym (ap (λ v. v.items) w.numbers-is))
      (numbers_skip c.args.marks.now c.loop-number.number c.loop-number.numbers.items c.loop-number.invariant
      (read_or c.args.marks.now c.loop-number.number _ false (omega (arith, c.loop-number-test.true)) w.if-marks-number.false))
]

pub returns-clause-each : goal.returns-clause-each
returns-clause-each c = all_numbers c.args.marks.now c.loop-number.number c.loop-number.numbers.items (omega (arith, c.loop-number-test.false)) c.loop-number.invariant
