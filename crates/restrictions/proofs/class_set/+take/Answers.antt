use Rattle.std.proofs.Common.{sym, ◌∙◌, arith}
use Rattle.restrictions.proofs.Windows.{class_begun, class_choice, class_more, class_done, class_cut, part_except, part_alone}
use Rattle.restrictions.proofs.class_set.+take.Goals as goal

pub take_class-loop-left-init : goal.take_class-loop-left-init
take_class-loop-left-init t c = (λ d more e. class_begun c.args.names.now c.requires d more _ _ c.none-taken.ensures e, omega arith, omega arith)

pub take_class-returns-in_default-clause-first : goal.take_class-returns-in_default-clause-first
take_class-returns-in_default-clause-first t c = λ d more e.
    class_cut c.args.names.now c.requires d more c.loop-left.left c.loop-left.taken c.loop-left.rest.now c.loop-left-test.true c.in_default.ensures.cases (c.loop-left.invariant.0 d more e)

pub take_class-loop-left-preserved-then-is_choice : goal.take_class-loop-left-preserved-then-is_choice
take_class-loop-left-preserved-then-is_choice t c = (
  λ d more e. class_choice c.args.names.now c.requires d more c.loop-left.left c.loop-left.taken _ _ c.in-Some.part.now c.loop-left-test.true c.in-Some.ensures.cases.0 (sym c.is_choice.ensures ∙ c.if-is_choice.true) (c.loop-left.invariant.0 d more e),
  omega (arith, c.loop-left.invariant.1, c.in-Some.ensures.cases.1),
  omega (arith, c.loop-left.invariant.2, c.in-Some.ensures.cases.1),
)

pub take_class-loop-left-preserved : goal.take_class-loop-left-preserved
take_class-loop-left-preserved t c = (
  λ d more e. class_more c.args.names.now c.requires d more c.loop-left.left c.loop-left.taken _ _ _ _ _ c.in-Some.part.now c.loop-left-test.true c.in-Some.ensures.cases.0
      c.take_part.ensures.first c.union-taken.ensures (c.loop-left.invariant.0 d more e) _ (omega (arith, c.loop-left-test.true)),
  omega (arith, c.loop-left.invariant.1, c.in-Some.ensures.cases.1, c.take_part.ensures.shorter, c.loop-left-test.true),
  omega (arith, c.loop-left.invariant.2, c.in-Some.ensures.cases.1, c.take_part.ensures.shorter),
)

pub take_class-returns-clause-first : goal.take_class-returns-clause-first
take_class-returns-clause-first t c = λ d more e.
    class_done c.args.names.now c.requires d more c.loop-left.left c.loop-left.taken _ (omega (arith, c.loop-left-test.false)) (c.loop-left.invariant.0 d more e)

pub take_part-returns-then-excepts-clause-first : goal.take_part-returns-then-excepts-clause-first
take_part-returns-then-excepts-clause-first t c = λ d more e.
    part_except c.args.names.now c.requires.names c.args.part.now c.args.behind.now more _ d _ _ _ (sym c.excepts.ensures ∙ c.if-excepts.true) e c.part_set-inside.ensures c.take_class.ensures.first c.without.ensures

pub take_part-returns-else-excepts-clause-first : goal.take_part-returns-else-excepts-clause-first
take_part-returns-else-excepts-clause-first t c = λ d more e.
    part_alone c.args.names.now c.requires.names c.args.part.now c.args.behind.now more d _ (sym c.excepts.ensures ∙ c.if-excepts.false) c.requires.part e c.part_set-inside.ensures
