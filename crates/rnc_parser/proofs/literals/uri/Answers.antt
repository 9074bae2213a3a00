use Rattle.std.proofs.Common.{sym, ap}
use Rattle.grammar_laws.specs.Grammar.{ReadsBare, ReadsBareClass, ReadsClass, ReadsPattern, ReadsParticle, ReadsPrimary, ReadsItem, ReadsItems, ReadsInner, ReadsUri, ReadsParameters, ReadsBraces, ReadsInherit}
use Rattle.grammar_laws.specs.Grammar as by
use Rattle.syntax_laws.specs.Expecting.{next, first, Stands, is_symbol, declaration_move, class_move, pattern_move, item_move, next_item_move}
use Rattle.syntax_laws.specs.Expecting as part
use Rattle.rnc_parser.specs.Reading.{parsed}
use Rattle.rnc_parser.proofs.Steps.{begin, turn, read, took, inside, missing, passed_on, made}
use Rattle.rnc_parser.proofs.Shapes as shape
use Rattle.rnc_parser.proofs.literals.uri.Goals as goal

pub returns-in_err-at-clause-parsed : goal.returns-in_err-at-clause-parsed
returns-in_err-at-clause-parsed c =
    passed_on c.from_residual.result c.from_residual.ensures.1 (missing _ (turn begin (ap part.uri_move (sym c.if-is_inherit.ensures))) c.in_err-at.ensures)

pub returns-then-is_inherit-clause-parsed : goal.returns-then-is_inherit-clause-parsed
returns-then-is_inherit-clause-parsed c =
    parsed
    (shape.inherit_read c.in_ok-at.ensures)
    (took (turn begin (ap part.uri_move (sym c.if-is_inherit.ensures))) c.in_ok-at.ensures)

pub returns-in_err-text-clause-parsed : goal.returns-in_err-text-clause-parsed
returns-in_err-text-clause-parsed c =
    passed_on c.from_residual-in_err-text.result c.from_residual-in_err-text.ensures.1 (inside (turn begin (ap part.uri_move (sym c.if-is_inherit.ensures))) c.in_err-text.ensures.parsed)

pub returns-clause-parsed : goal.returns-clause-parsed
returns-clause-parsed c =
    parsed
    (by.literal (made c.in_ok-text.ensures.parsed))
    (read (turn begin (ap part.uri_move (sym c.if-is_inherit.ensures))) c.in_ok-text.ensures.parsed)
