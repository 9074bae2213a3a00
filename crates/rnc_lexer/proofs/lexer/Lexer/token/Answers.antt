use Rattle.std.proofs.Common.{sym, subst, chars}
use Rattle.token_laws.specs.Lexing as lexing
use Rattle.rnc_lexer.specs.Views.{joined_of}
use Rattle.rnc_lexer.specs.Steps.{StopsAt}
use Rattle.rnc_lexer.proofs.Refusals.{stops_escape}
use Rattle.rnc_lexer.proofs.Leads.{escape_here, word_here, tokens_lead, tokens_shrink}
use Rattle.rnc_lexer.proofs.lexer.Lexer.token.Goals as goal

pub returns-then-opens_escape-clause-refused : goal.returns-then-opens_escape-clause-refused
returns-then-opens_escape-clause-refused c =
    let st = escape_here c.args.first (chars c.args.self.now.rest.now) c.requires.first c.requires.starts (sym c.if-is_quote.ensures) (sym c.if-opens_escape.ensures) in
    subst (λ z. StopsAt c.args.self.now.end (joined_of c.args.joined) c.args.self.now.rest.now lexing.escape_refused z) (sym c.place.ensures)
    (stops_escape c.args.self.now.end (joined_of c.args.joined) c.args.self.now.rest.now st)

pub returns-clause-leads : goal.returns-clause-leads
returns-clause-leads c =
    let st = word_here c.args.first (chars c.args.self.now.rest.now) c.requires.first c.requires.starts (sym c.if-is_quote.ensures) (sym c.if-opens_escape.ensures) in
    tokens_lead c.args.self.now.end (joined_of c.args.joined) c.args.self.now.rest.now c.word_token.new.self.rest.now c.word_token.result c.args.self.now.within st c.word_token.ensures.word c.word_token.ensures.short

pub returns-clause-shorter : goal.returns-clause-shorter
returns-clause-shorter c = tokens_shrink c.args.self.now.rest.now c.word_token.new.self.rest.now c.word_token.result c.word_token.ensures.word
