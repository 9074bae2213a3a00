use Rattle.std.proofs.Common.{sym}
use Rattle.rnc_lexer.proofs.NameForms.{escaped_word, no_escaped}
use Rattle.rnc_lexer.proofs.lexer.Lexer.escaped_name.Goals as goal

pub returns-then-at_name-clause-word : goal.returns-then-at_name-clause-word
returns-then-at_name-clause-word c = escaped_word c.requires.backslash c.name_run.ensures.run (sym c.if-at_name.ensures)

pub returns-else-at_name-clause-none : goal.returns-else-at_name-clause-none
returns-else-at_name-clause-none c = no_escaped _ _ c.requires.backslash (sym c.if-at_name.ensures)
