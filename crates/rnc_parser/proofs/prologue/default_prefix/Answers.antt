use Rattle.std.proofs.Common.{refl, sym, ap}
use Rattle.syntax_laws.specs.Expecting.{next, first, Stands, is_symbol, declaration_move, class_move, pattern_move, item_move, next_item_move}
use Rattle.syntax_laws.specs.Expecting as part
use Rattle.rnc_parser.specs.Reading.{parsed}
use Rattle.rnc_parser.proofs.Steps.{begin, turn, took, missing, passed_on}
use Rattle.rnc_parser.proofs.Shapes as shape
use Rattle.rnc_parser.proofs.prologue.default_prefix.Goals as goal

pub returns-then-not-is_name-clause-parsed : goal.returns-then-not-is_name-clause-parsed
returns-then-not-is_name-clause-parsed c =
    parsed refl (turn begin (ap part.default_prefix_move (sym c.if-not-is_name.ensures)))

pub returns-in_err-prefix-clause-parsed : goal.returns-in_err-prefix-clause-parsed
returns-in_err-prefix-clause-parsed c =
    passed_on c.from_residual.result c.from_residual.ensures.1 (missing _ (turn begin (ap part.default_prefix_move (sym c.if-not-is_name.ensures))) c.in_err-prefix.ensures)

pub returns-clause-parsed : goal.returns-clause-parsed
returns-clause-parsed c =
    parsed
    (shape.prefix_read c.in_ok-prefix.ensures)
    (took (turn begin (ap part.default_prefix_move (sym c.if-not-is_name.ensures))) c.in_ok-prefix.ensures)
