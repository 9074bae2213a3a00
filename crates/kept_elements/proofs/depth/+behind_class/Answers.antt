use Rattle.std.proofs.Common.{◌≡◌, ◌<◌, ◌++◌, sym, ◌∙◌, subst, arith, MatchOption, Option, None, List}
use Rattle.std.specs.Borrow.{Bor}
use Rattle.rng_model.specs.Depths.{class_depth}
use Rattle.name_classes.specs.declared.part.Part.{Part}
use Rattle.kept_elements.proofs.Levels.{IsBehind, depth_some, some_part, behind_except, behind_alone, left_deep, behind_choice}
use Rattle.kept_elements.proofs.depth.+behind_class.Goals as goal

pub returns-then-levels-eq0 : goal.returns-then-levels-eq0
returns-then-levels-eq0 t c = λ d more e. omega (arith, c.if-levels-eq0.true, depth_some d)

pub returns-in_err-part : goal.returns-in_err-part
returns-in_err-part t c = λ d more e. some_part d more c.args.parts.now c.in_err-part.ensures.cases e

pub returns-in_err-rest : goal.returns-in_err-rest
returns-in_err-rest t c =
    subst (λ (o : Option (Bor (List Part))). IsBehind c.args.levels c.args.parts.now o) (sym c.from_residual-in_err-rest.ensures)
    (left_deep c.args.levels c.in_ok-part.part.now c.args.parts.now c.in_ok-part.rest.now (omega (arith, c.if-levels-eq0.false)) c.in_ok-part.ensures.cases.0 (sym c.is_choice.ensures ∙ c.if-is_choice.true) c.in_err-rest.ensures)

pub returns-in_ok-rest : goal.returns-in_ok-rest
returns-in_ok-rest t c =
    behind_choice c.args.levels c.in_ok-part.part.now c.args.parts.now c.in_ok-part.rest.now _ _ (omega (arith, c.if-levels-eq0.false)) c.in_ok-part.ensures.cases.0 (sym c.is_choice.ensures ∙ c.if-is_choice.true)
    c.in_ok-rest.ensures c.behind_class-then-is_choice.ensures

pub returns-then-excepts : goal.returns-then-excepts
returns-then-excepts t c =
    behind_except c.args.levels c.in_ok-part.part.now c.args.parts.now c.in_ok-part.rest.now _ (omega (arith, c.if-levels-eq0.false)) c.in_ok-part.ensures.cases.0 (sym c.excepts.ensures ∙ c.if-excepts.true)
    c.behind_class-then-excepts.ensures

pub returns-else-excepts : goal.returns-else-excepts
returns-else-excepts t c =
    behind_alone c.args.levels c.in_ok-part.part.now c.args.parts.now c.in_ok-part.rest.now (omega (arith, c.if-levels-eq0.false)) c.in_ok-part.ensures.cases.0
    (sym c.excepts.ensures ∙ c.if-excepts.false) (sym c.is_choice.ensures ∙ c.if-is_choice.false)
