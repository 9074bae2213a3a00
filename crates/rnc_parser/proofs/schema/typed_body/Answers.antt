use Rattle.std.proofs.Common.{false, sym, ap}
use Rattle.token_laws.specs.Tokens as kw
use Rattle.syntax_laws.specs.Expecting as part
use Rattle.rnc_parser.specs.Reading.{parsed}
use Rattle.rnc_parser.proofs.Steps as step
use Rattle.rnc_parser.proofs.Steps.{begin, turn, read, took, inside, missing, passed_on, instead, at_rest, at_last, made}
use Rattle.rnc_parser.proofs.Tops as top
use Rattle.rnc_parser.proofs.Chains as chain
use Rattle.rnc_parser.proofs.schema.typed_body.Goals as goal

pub returns-in_err-prefix : goal.returns-in_err-prefix
returns-in_err-prefix c =
    passed_on c.from_residual.result c.from_residual.ensures.1 (missing _ begin c.in_err-prefix.ensures)

pub returns-in_err-block : goal.returns-in_err-block
returns-in_err-block c =
    passed_on c.from_residual-in_err-block.result c.from_residual-in_err-block.ensures.1 (inside (turn (took begin c.in_ok-prefix.ensures) (ap part.typed_body_move (sym (step.bracket_next c.if-is.ensures)))) c.in_err-block.ensures.parsed)

pub returns-in_err-found : goal.returns-in_err-found
returns-in_err-found c =
    passed_on c.from_residual-in_err-found.result c.from_residual-in_err-found.ensures.1 (inside (read (turn (took begin c.in_ok-prefix.ensures) (ap part.typed_body_move (sym (step.bracket_next c.if-is.ensures)))) c.in_ok-block.ensures.parsed) c.in_err-found.ensures.parsed)

pub returns-then-is : goal.returns-then-is
returns-then-is c =
    parsed
    (top.items_body (top.prefixed_annotation c.in_ok-prefix.ensures (made c.in_ok-block.ensures.parsed) ((chain.fresh_items false c.new.result c.new.ensures (made c.in_ok-found.ensures.parsed)).0)))
    (read (read (turn (took begin c.in_ok-prefix.ensures) (ap part.typed_body_move (sym (step.bracket_next c.if-is.ensures)))) c.in_ok-block.ensures.parsed) c.in_ok-found.ensures.parsed)

pub returns-in_err-found-2 : goal.returns-in_err-found-2
returns-in_err-found-2 c =
    passed_on c.from_residual-in_err-found-2.result c.from_residual-in_err-found-2.ensures.1 (inside (turn (took begin c.in_ok-prefix.ensures) (ap part.typed_body_move (step.no_symbol kw.open_bracket _ c.if-is.ensures))) c.in_err-found-2.ensures.parsed)

pub returns-in_err-found-3 : goal.returns-in_err-found-3
returns-in_err-found-3 c =
    passed_on c.from_residual-in_err-found-3.result c.from_residual-in_err-found-3.ensures.1 (top.inside_rest (read (turn (took begin c.in_ok-prefix.ensures) (ap part.typed_body_move (step.no_symbol kw.open_bracket _ c.if-is.ensures))) c.in_ok-found-2.ensures.parsed) c.in_err-found-3.ensures)

pub returns : goal.returns
returns c =
    parsed
    (top.pattern_body (top.type_behind c.in_ok-prefix.ensures (made c.in_ok-found-2.ensures.parsed) (made c.in_ok-found-3.ensures)))
    (top.read_rest (read (turn (took begin c.in_ok-prefix.ensures) (ap part.typed_body_move (step.no_symbol kw.open_bracket _ c.if-is.ensures))) c.in_ok-found-2.ensures.parsed) c.in_ok-found-3.ensures)
