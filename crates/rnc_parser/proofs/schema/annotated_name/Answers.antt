use Rattle.std.proofs.Common.{sym, ap}
use Rattle.syntax_laws.specs.Expecting as part
use Rattle.rnc_parser.specs.Reading.{parsed}
use Rattle.rnc_parser.proofs.Steps.{begin, turn, took, missing, passed_on, at_rest, made}
use Rattle.rnc_parser.proofs.Tops as top
use Rattle.rnc_parser.proofs.schema.annotated_name.Goals as goal

pub returns-in_err-name : goal.returns-in_err-name
returns-in_err-name c =
    passed_on c.from_residual.result c.from_residual.ensures.1 (missing _ begin c.in_err-name.ensures)

pub returns-then-is_assign : goal.returns-then-is_assign
returns-then-is_assign c =
    at_rest (turn (took begin c.in_ok-name.ensures) (ap part.annotated_name_move (sym c.if-is_assign.ensures))) (λ v r start b. top.behind_name v c.in_ok-name.ensures b r) c.defined_body.ensures

pub returns-in_err-found : goal.returns-in_err-found
returns-in_err-found c =
    passed_on c.from_residual-in_err-found.result c.from_residual-in_err-found.ensures.1 (top.inside_rest (turn (took begin c.in_ok-name.ensures) (ap part.annotated_name_move (sym c.if-is_assign.ensures))) c.in_err-found.ensures)

pub returns : goal.returns
returns c =
    parsed
    (λ start b. top.pattern_body (top.reference_behind c.in_ok-name.ensures b (made c.in_ok-found.ensures)))
    (top.read_rest (turn (took begin c.in_ok-name.ensures) (ap part.annotated_name_move (sym c.if-is_assign.ensures))) c.in_ok-found.ensures)
