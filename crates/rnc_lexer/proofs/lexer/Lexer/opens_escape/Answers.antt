use Rattle.std.proofs.Common.{◌∙◌, ◌++◌, sym, ap, encode_utf8, IsUtf8, rules}
use Rattle.std.proofs.lemmas.Str.{chars_past_char}
use Rattle.token_laws.specs.Lexing.{opens_escape}
use Rattle.rnc_lexer.proofs.NameForms.{took}
use Rattle.rnc_lexer.proofs.lexer.Lexer.opens_escape.Goals as goal

pub returns : goal.returns
returns c =
    let s = took c.next.result 92 _ _ c.if-ne.ensures c.next.ensures.steps.0 in
    let u : IsUtf8 c.args.self.now.rest.now = search rules in
    let b = (sym c.chars-chars.ensures.rest ∙ s) ∙ ap (λ z. encode_utf8 92 ++ z) (sym c.as_str.ensures) in
    c.begins_code.ensures ∙ sym (ap opens_escape (chars_past_char _ _ _ u b))
