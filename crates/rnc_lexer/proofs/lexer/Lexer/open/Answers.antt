use Rattle.std.proofs.Common.{subst}
use Rattle.rnc_lexer.specs.Steps.{Takes}
use Rattle.rnc_lexer.proofs.Quotes.{opens_long, opens_short, mark_taken}
use Rattle.rnc_lexer.proofs.lexer.Lexer.open.Goals as goal

pub returns-then-take_three-clause-opens : goal.returns-then-take_three-clause-opens
returns-then-take_three-clause-opens c = opens_long c.args.self.now.end c.args.mark c.args.self.now.rest.now _ c.requires.quote c.args.self.now.within c.if-take_three.ensures.takes

pub returns-clause-opens : goal.returns-clause-opens
returns-clause-opens c =
    let t = c.if-take_three.ensures.takes in
    let u = subst (λ z. Takes c.args.mark z c.take.result c.take.new.self.rest.now) t.0 c.take.ensures.takes in
    opens_short c.args.self.now.end c.args.mark c.args.self.now.rest.now _ c.requires.quote c.args.self.now.within t.1 (mark_taken c.args.mark c.take.result _ _ c.requires.mark u)
