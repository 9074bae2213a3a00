use Rattle.std.proofs.Common.{sym, ap}
use Rattle.grammar_laws.specs.Grammar.{ReadsBare, ReadsBareClass, ReadsClass, ReadsPattern, ReadsParticle, ReadsPrimary, ReadsItem, ReadsItems, ReadsInner, ReadsUri, ReadsParameters, ReadsBraces, ReadsInherit}
use Rattle.grammar_laws.specs.Grammar as by
use Rattle.syntax_laws.specs.Expecting.{next, first, Stands, is_symbol, declaration_move, class_move, pattern_move, item_move, next_item_move}
use Rattle.syntax_laws.specs.Expecting as part
use Rattle.rnc_parser.specs.Reading.{parsed}
use Rattle.rnc_parser.proofs.Steps.{begin, turn, took, missing, passed_on}
use Rattle.rnc_parser.proofs.Shapes as shape
use Rattle.rnc_parser.proofs.datatypes.passed.Goals as goal

pub returns-then-not-is_inherit-clause-parsed : goal.returns-then-not-is_inherit-clause-parsed
returns-then-not-is_inherit-clause-parsed c =
    parsed by.ReadsInherit.none (turn begin (ap part.passed_move (sym c.if-not-is_inherit.ensures)))

pub returns-in_err-at-clause-parsed : goal.returns-in_err-at-clause-parsed
returns-in_err-at-clause-parsed c =
    passed_on c.from_residual.result c.from_residual.ensures.1 (missing _ (turn begin (ap part.passed_move (sym c.if-not-is_inherit.ensures))) c.in_err-at.ensures)

pub returns-in_err-_equals-clause-parsed : goal.returns-in_err-_equals-clause-parsed
returns-in_err-_equals-clause-parsed c =
    passed_on c.from_residual-in_err-_equals.result c.from_residual-in_err-_equals.ensures.1 (missing _ (took (turn begin (ap part.passed_move (sym c.if-not-is_inherit.ensures))) c.in_ok-at.ensures) c.in_err-_equals.ensures)

pub returns-in_err-prefix-clause-parsed : goal.returns-in_err-prefix-clause-parsed
returns-in_err-prefix-clause-parsed c =
    passed_on c.from_residual-in_err-prefix.result c.from_residual-in_err-prefix.ensures.1 (missing _ (took (took (turn begin (ap part.passed_move (sym c.if-not-is_inherit.ensures))) c.in_ok-at.ensures) c.in_ok-_equals.ensures) c.in_err-prefix.ensures)

pub returns-clause-parsed : goal.returns-clause-parsed
returns-clause-parsed c =
    parsed
    (shape.passed_read c.in_ok-at.ensures c.in_ok-_equals.ensures c.in_ok-prefix.ensures)
    (took (took (took (turn begin (ap part.passed_move (sym c.if-not-is_inherit.ensures))) c.in_ok-at.ensures) c.in_ok-_equals.ensures) c.in_ok-prefix.ensures)
