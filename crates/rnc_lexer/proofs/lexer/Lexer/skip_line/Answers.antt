use Rattle.std.proofs.Common.{◌∙◌, sym, ap, not}
use Rattle.rnc_lexer.proofs.Fronts.{front_more}
use Rattle.rnc_lexer.proofs.lexer.Lexer.skip_line.Goals as goal

pub loop-c-preserved : goal.loop-c-preserved
loop-c-preserved c =
    let i = c.loop-c.invariant in
    (c.as_str-rest.utf8, sym c.as_str-rest.ensures, front_more c.in-Some.c i.2 i.0 (sym i.1 ∙ c.in-Some.ensures.steps.0) c.as_str-rest.ensures (ap not (sym c.if-is_line_end.ensures)))
