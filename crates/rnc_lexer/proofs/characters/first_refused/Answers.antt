use Rattle.std.proofs.Common.{◌∙◌, sym, ap, length}
use Rattle.token_laws.specs.Lexing.{is_allowed}
use Rattle.rnc_lexer.proofs.Fronts.{front_more, refused_at, all_passed}
use Rattle.rnc_lexer.proofs.characters.first_refused.Goals as goal

pub loop-c-preserved : goal.loop-c-preserved
loop-c-preserved c =
    let i = c.loop-c.invariant in
    (c.as_str-rest.utf8, sym c.as_str-rest.ensures, front_more c.in-Some.c i.2 i.0 (sym i.1 ∙ c.in-Some.ensures.steps.0) c.as_str-rest.ensures (sym c.if-not-is_allowed.ensures))

pub returns-then-not-is_allowed : goal.returns-then-not-is_allowed
returns-then-not-is_allowed c =
    let i = c.loop-c.invariant in
    refused_at _ _ _ c.in-Some.c i.2 i.0 (sym i.1 ∙ c.in-Some.ensures.steps.0) (sym c.if-not-is_allowed.ensures)

pub returns : goal.returns
returns c =
    let i = c.loop-c.invariant in
    all_passed is_allowed _ _ i.2 (ap length (sym i.1) ∙ c.in_default.ensures.steps.0.0)
