use Rattle.std.proofs.Common.{sym, subst}
use Rattle.grammar_laws.specs.Grammar.{ReadsBare}
use Rattle.rnc_parser.specs.Reading.{parsed}
use Rattle.rnc_parser.proofs.Steps.{begin, took, missing, passed_on}
use Rattle.rnc_parser.proofs.Shapes as shape
use Rattle.schema_tree.proofs.Folds as fold
use Rattle.rnc_parser.proofs.patterns.text.Goals as goal

pub returns-in_err-_at-clause-parsed : goal.returns-in_err-_at-clause-parsed
returns-in_err-_at-clause-parsed c =
    passed_on c.from_residual.result c.from_residual.ensures.1 (missing _ begin c.in_err-_at.ensures)

pub returns-clause-parsed : goal.returns-clause-parsed
returns-clause-parsed c =
    parsed
    (subst (ReadsBare c.args.tokens.now c.word.new.self) (sym fold.pattern_any_text) (shape.text_read c.in_ok-_at.ensures))
    (took begin c.in_ok-_at.ensures)
