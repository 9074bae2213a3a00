use Rattle.std.proofs.Common.{◌∙◌, sym}
use Rattle.rng_model.specs.Names.{is_name_char}
use Rattle.rnc_lexer.proofs.Fronts.{front_more, front_cut}
use Rattle.rnc_lexer.proofs.lexer.Lexer.name_run.Goals as goal

pub loop-c-preserved : goal.loop-c-preserved
loop-c-preserved c =
    let i = c.loop-c.invariant in
    (c.as_str-rest.utf8, sym c.as_str-rest.ensures, front_more c.in-Some.c i.2 i.0 (sym i.1 ∙ c.in-Some.ensures.steps.0) c.as_str-rest.ensures (sym c.if-not-is_name_char.ensures))

pub range-requires-clause-end_boundary : goal.range-requires-clause-end_boundary
range-requires-clause-end_boundary c = front_cut is_name_char _ _ c.loop-c.invariant.2 c.loop-c.invariant.0
