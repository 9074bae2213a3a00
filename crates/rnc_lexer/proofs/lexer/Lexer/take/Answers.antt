use Rattle.std.proofs.Common.{◌∙◌, ◌++◌, sym, ap, encode_utf8, IsUtf8, rules}
use Rattle.std.proofs.lemmas.Str.{chars_past_char}
use Rattle.rnc_lexer.proofs.NameForms.{took}
use Rattle.rnc_lexer.proofs.lexer.Lexer.take.Goals as goal

pub returns-clause-takes : goal.returns-clause-takes
returns-clause-takes c =
    let s = took c.next.result c.args.wanted _ _ c.if-ne.ensures c.next.ensures.steps.0 in
    let u : IsUtf8 c.args.self.now.rest.now = search rules in
    let b = (sym c.chars-chars.ensures.rest ∙ s) ∙ ap (λ z. encode_utf8 c.args.wanted ++ z) (sym c.as_str-self.ensures) in
    (b, chars_past_char _ _ _ u b)
