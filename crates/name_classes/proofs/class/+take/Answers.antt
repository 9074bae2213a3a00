use Rattle.std.proofs.Common.{◌≡◌, ◌≤◌, ◌<◌, ◌+◌, ◌*◌, ◌++◌, ◌&&◌, not, List, length, arith, rules, ap, ◌∙◌, sym, subst, IsTrue, refl, true, false}
use Rattle.rng_model.specs.Classes.{Class, any, any_except, namespace, namespace_except, one, either}
use Rattle.name_classes.specs.declared.part.Part.{Part}
use Rattle.name_classes.specs.declared.part.Part.TheVariants.{Any, Namespace, One, Choice}
use Rattle.name_classes.specs.Parts.{parts_of, is_choice, excepts, in_part, in_parts}
use Rattle.name_classes.specs.Views.{class_of}
use Rattle.name_classes.proofs.Reading.{IsLeft, left_first, left_choice, left_class, left_none, left_some, excepting, alone}
use Rattle.name_classes.proofs.class.+take.Goals as goal
use Rattle.name_classes.proofs.class.+take.Goals.{take_part-then-takes, take_part-else-takes}

pub take_class-loop-left-init : goal.take_class-loop-left-init
take_class-loop-left-init t c = (λ d more e. left_first (in_part c.args.sample) d more _ e, omega arith, omega arith)

pub take_class-returns-in_default-clause-first : goal.take_class-returns-in_default-clause-first
take_class-returns-in_default-clause-first t c = λ d more e. left_some (in_part c.args.sample) d more c.loop-left.left c.loop-left.taken c.loop-left.rest.now c.loop-left-test.true c.in_default.ensures.cases (c.loop-left.invariant.0 d more e)

pub take_class-overflow_add-left : goal.take_class-overflow_add-left
take_class-overflow_add-left t c = omega (arith, c.loop-left.invariant.1, c.in-Some.ensures.cases.1, c.well_formed.1.0)

pub take_class-loop-left-preserved-then-is_choice : goal.take_class-loop-left-preserved-then-is_choice
take_class-loop-left-preserved-then-is_choice t c = (
  λ d more e. left_choice (in_part c.args.sample) d more c.loop-left.left c.loop-left.taken _ _ c.in-Some.part.now c.loop-left-test.true c.in-Some.ensures.cases.0 (sym c.is_choice.ensures ∙ c.if-is_choice.true) (c.loop-left.invariant.0 d more e),
  omega (arith, c.loop-left.invariant.1, c.in-Some.ensures.cases.1),
  omega (arith, c.loop-left.invariant.2, c.in-Some.ensures.cases.1),
)

pub take_class-take_part-is_in-requires : goal.take_class-take_part-is_in-requires
take_class-take_part-is_in-requires t c = (omega (arith, c.decreases, c.loop-left.invariant.2, c.in-Some.ensures.cases.1), sym c.is_choice.ensures ∙ c.if-is_choice.false)

pub take_class-loop-left-preserved : goal.take_class-loop-left-preserved
take_class-loop-left-preserved t c = (
  λ d more e. left_class (in_part c.args.sample) d more c.loop-left.left c.loop-left.taken _ _ _ _ c.in-Some.part.now c.loop-left-test.true c.in-Some.ensures.cases.0 c.take_part-is_in.ensures.first (c.loop-left.invariant.0 d more e) _ (omega (arith, c.loop-left-test.true)),
  omega (arith, c.loop-left.invariant.1, c.in-Some.ensures.cases.1, c.take_part-is_in.ensures.shorter, c.loop-left-test.true),
  omega (arith, c.loop-left.invariant.2, c.in-Some.ensures.cases.1, c.take_part-is_in.ensures.shorter),
)

pub take_class-returns-clause-first : goal.take_class-returns-clause-first
take_class-returns-clause-first t c = λ d more e. left_none (in_part c.args.sample) d more c.loop-left.left c.loop-left.taken _ (omega (arith, c.loop-left-test.false)) (c.loop-left.invariant.0 d more e)

pub take_class-returns-clause-shorter : goal.take_class-returns-clause-shorter
take_class-returns-clause-shorter t c = c.loop-left.invariant.2

pub take_part-take_class-is_excepted-requires : goal.take_part-take_class-is_excepted-requires
take_part-take_class-is_excepted-requires t c = (omega (arith, c.decreases), tt)

pub take_part-returns-after-takes-clause-first : goal.take_part-returns-after-takes-clause-first
take_part-returns-after-takes-clause-first t c = λ d more e.
    let (x, i, j) = excepting (in_part c.args.sample) c.args.part.now c.args.behind.now more d (sym c.excepts.ensures ∙ c.if-excepts.true) e in
    let (k, l) = c.take_class-is_excepted.ensures.first x more i in
    let joined : c.if-takes.result ≡ (c.takes.result && not c.take_class-is_excepted.result.0) = elim c.if-takes.branch [
      | take_part-then-takes w ↦ w.result-is ∙ ap (λ b. b && not c.take_class-is_excepted.result.0) (sym w.if-takes.true)
      | take_part-else-takes w ↦ w.result-is ∙ w.if-takes.false ∙ ap (λ b. b && not c.take_class-is_excepted.result.0) (sym w.if-takes.false)
    ] in
    (joined ∙ (λ n. c.takes.ensures n && not (k n)) ∙ j, l)

pub take_part-returns-else-excepts-clause-first : goal.take_part-returns-else-excepts-clause-first
take_part-returns-else-excepts-clause-first t c = λ d more e.
    let (i, j) = alone (in_part c.args.sample) c.args.part.now c.args.behind.now more d (sym c.excepts.ensures ∙ c.if-excepts.false) c.requires e in
    (c.takes-else-excepts.ensures ∙ j, i)
