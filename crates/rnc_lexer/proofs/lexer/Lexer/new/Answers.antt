use Rattle.rnc_lexer.proofs.Leads.{text_begins}
use Rattle.rnc_lexer.proofs.lexer.Lexer.new.Goals as goal

pub returns-clause-rest : goal.returns-clause-rest
returns-clause-rest c = text_begins c.take.result c.args.text.now c.take.new.self.rest.now c.take.ensures.takes
