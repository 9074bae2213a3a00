use Rattle.std.proofs.lemmas.Result.{OkIff-at_err, OkIff-at_ok}
use Rattle.rnc_lexer.proofs.Numbers.{parsed, no_numeral, no_scalar}
use Rattle.rnc_lexer.proofs.escapes.character_of.Goals as goal

pub returns-in_default : goal.returns-in_default
returns-in_default c =
    no_numeral c.args.digits.now c.requires (OkIff-at_err c.from_str_radix.result _ _ c.in_default.field-0 (parsed c.args.digits.now c.from_str_radix.result c.requires c.from_str_radix.ensures.value) c.in_default.is)

pub returns-in_default-from_u32 : goal.returns-in_default-from_u32
returns-in_default-from_u32 c =
    let v = (OkIff-at_ok c.from_str_radix.result _ _ c.in-Ok.number (parsed c.args.digits.now c.from_str_radix.result c.requires c.from_str_radix.ensures.value) c.in-Ok.is).1 in
    no_scalar c.args.digits.now c.in-Ok.number v c.in_default-from_u32.ensures.value
