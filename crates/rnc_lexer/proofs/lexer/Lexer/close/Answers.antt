use Rattle.std.proofs.Common.{sym, subst}
use Rattle.rnc_lexer.specs.Steps.{Closes}
use Rattle.rnc_lexer.proofs.Quotes.{closes_three, closes_one}
use Rattle.rnc_lexer.proofs.lexer.Lexer.close.Goals as goal

pub returns-then-long-clause-closes : goal.returns-then-long-clause-closes
returns-then-long-clause-closes c =
    subst (λ l. Closes c.args.self.now.end c.args.mark l c.args.self.now.rest.now c.take_three.result c.take_three.new.self.rest.now) (sym c.if-long.true)
    (closes_three c.args.self.now.end c.args.mark c.take_three.result _ _ c.requires.quote c.args.self.now.within c.take_three.ensures.takes)

pub returns-else-long-clause-closes : goal.returns-else-long-clause-closes
returns-else-long-clause-closes c =
    subst (λ l. Closes c.args.self.now.end c.args.mark l c.args.self.now.rest.now c.take.result c.take.new.self.rest.now) (sym c.if-long.false)
    (closes_one c.args.self.now.end c.args.mark c.take.result _ _ c.requires.quote c.args.self.now.within c.take.ensures.takes)
