use Rattle.rnc_lexer.proofs.Numbers.{no_close, escape_found, run_hexadecimal}
use Rattle.rnc_lexer.proofs.lexer.Lexer.escaped.Goals as goal

pub returns-then-not-take-4-clause-escape : goal.returns-then-not-take-4-clause-escape
returns-then-not-take-4-clause-escape c =
    no_close c.if-not-take.ensures.takes c.if-not-take-2.ensures.takes c.if-not-take-3.ensures.takes c.digit_run-digits.ensures.run c.if-not-take-4.ensures.takes.1

pub returns-clause-escape : goal.returns-clause-escape
returns-clause-escape c =
    escape_found _ c.args.self.now.end c.character_of.result c.if-not-take.ensures.takes c.if-not-take-2.ensures.takes c.if-not-take-3.ensures.takes c.digit_run-digits.ensures.run
    c.if-not-take-4.ensures.takes c.character_of.ensures

pub character_of-requires : goal.character_of-requires
character_of-requires c = run_hexadecimal c.digit_run-digits.ensures.run
