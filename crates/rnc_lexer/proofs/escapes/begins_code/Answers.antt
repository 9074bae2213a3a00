use Rattle.std.proofs.Common.{sym, ap, ◌∙◌, length, ne_eqb}
use Rattle.std.proofs.lemmas.Str.{IsUtf8-past_char}
use Rattle.rnc_lexer.proofs.Numbers.{code_none, code_first, code_begun, code_goes}
use Rattle.rnc_lexer.proofs.escapes.begins_code.Goals as goal

pub returns-in_default : goal.returns-in_default
returns-in_default c = code_none c.args.text.now (ap length (sym c.chars-chars.ensures.rest) ∙ c.in_default.ensures.steps.0.0)

pub returns-then-first-ne120 : goal.returns-then-first-ne120
returns-then-first-ne120 c =
    code_first c.args.text.now c.next.new.self.rest.now c.in-Some.first c.utf8.text (sym c.chars-chars.ensures.rest ∙ c.in-Some.ensures.steps.0) (ne_eqb c.in-Some.first 120 c.if-first-ne120.true)

pub loop-c-init : goal.loop-c-init
loop-c-init c =
    let b = sym c.chars-chars.ensures.rest ∙ c.in-Some.ensures.steps.0 in (
      IsUtf8-past_char c.args.text.now c.next.new.self.rest.now c.in-Some.first c.utf8.text b,
      code_begun c.args.text.now c.next.new.self.rest.now c.in-Some.first c.utf8.text b c.if-first-ne120.false,
    )

pub loop-c-preserved : goal.loop-c-preserved
loop-c-preserved c =
    let i = c.loop-c.invariant in
    let u = i.0 in (
      IsUtf8-past_char c.loop-c.chars.rest.now c.next-in-loop-c.new.self.rest.now c.in-Some-next.c u c.in-Some-next.ensures.steps.0,
      i.1 ∙ code_goes c.loop-c.chars.rest.now c.next-in-loop-c.new.self.rest.now c.in-Some-next.c u c.in-Some-next.ensures.steps.0 c.if-c-ne120.false,
    )
