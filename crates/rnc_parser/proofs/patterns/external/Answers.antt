use Rattle.std.proofs.Common.{sym, subst}
use Rattle.grammar_laws.specs.Grammar.{ReadsBare}
use Rattle.rnc_parser.specs.Reading.{parsed}
use Rattle.rnc_parser.proofs.Steps.{begin, read, took, inside, missing, passed_on, made}
use Rattle.rnc_parser.proofs.Shapes as shape
use Rattle.schema_tree.proofs.Folds as fold
use Rattle.rnc_parser.proofs.patterns.external.Goals as goal

pub returns-in_err-at-clause-parsed : goal.returns-in_err-at-clause-parsed
returns-in_err-at-clause-parsed c =
    passed_on c.from_residual.result c.from_residual.ensures.1 (missing _ begin c.in_err-at.ensures)

pub returns-in_err-literal-clause-parsed : goal.returns-in_err-literal-clause-parsed
returns-in_err-literal-clause-parsed c =
    passed_on c.from_residual-in_err-literal.result c.from_residual-in_err-literal.ensures.1 (inside (took begin c.in_ok-at.ensures) c.in_err-literal.ensures.parsed)

pub returns-in_err-passed-clause-parsed : goal.returns-in_err-passed-clause-parsed
returns-in_err-passed-clause-parsed c =
    passed_on c.from_residual-in_err-passed.result c.from_residual-in_err-passed.ensures.1 (inside (read (took begin c.in_ok-at.ensures) c.in_ok-literal.ensures.parsed) c.in_err-passed.ensures.parsed)

pub returns-clause-parsed : goal.returns-clause-parsed
returns-clause-parsed c =
    parsed
    (subst (ReadsBare c.args.tokens.now c.passed.new.tokens) (sym (fold.pattern_external c.in_ok-literal.literal c.in_ok-passed.passed c.in_ok-at.at)) (shape.external_read c.in_ok-at.ensures (made c.in_ok-literal.ensures.parsed) (made c.in_ok-passed.ensures.parsed)))
    (read (read (took begin c.in_ok-at.ensures) c.in_ok-literal.ensures.parsed) c.in_ok-passed.ensures.parsed)
