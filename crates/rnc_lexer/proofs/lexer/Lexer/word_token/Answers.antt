use Rattle.std.proofs.Common.{◌-◌, ◌∙◌, sym, ap₂, subst, length}
use Rattle.token_laws.specs.Lexing.{bad_character}
use Rattle.rnc_lexer.specs.Steps.{StopsAnywhere}
use Rattle.rnc_lexer.proofs.Refusals.{stops_stray}
use Rattle.rnc_lexer.proofs.lexer.Lexer.word_token.Goals as goal

pub returns-in_default-clause-refused : goal.returns-in_default-clause-refused
returns-in_default-clause-refused c =
    let e = ap₂ (λ x y. x - length y) (c.end.ensures ∙ c.word.ensures.end) c.rest-before.ensures in
    subst (λ z. StopsAnywhere c.args.self.now.end c.args.self.now.rest.now bad_character z) (sym e) (stops_stray c.args.self.now.end c.args.self.now.rest.now c.requires.starts c.in_default.ensures.none)
