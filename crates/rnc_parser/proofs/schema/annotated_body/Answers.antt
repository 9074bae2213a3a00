use Rattle.std.proofs.Common.{sym, ap}
use Rattle.syntax_laws.specs.Expecting as part
use Rattle.rnc_parser.proofs.Steps.{begin, turn, read, inside, passed_on, at_rest, made}
use Rattle.rnc_parser.proofs.schema.annotated_body.Goals as goal

pub returns-in_err-blocks : goal.returns-in_err-blocks
returns-in_err-blocks c =
    passed_on c.from_residual.result c.from_residual.ensures.1 (inside begin c.in_err-blocks.ensures.parsed)

pub returns-in-Named : goal.returns-in-Named
returns-in-Named c =
    at_rest (turn (read begin c.in_ok-blocks.ensures.parsed) (ap part.annotated_move (sym c.in-Named.ensures))) (λ v r. r c.args.tokens.now (made c.in_ok-blocks.ensures.parsed)) c.annotated_name.ensures

pub returns-in-Start : goal.returns-in-Start
returns-in-Start c =
    at_rest (turn (read begin c.in_ok-blocks.ensures.parsed) (ap part.annotated_move (sym c.in-Start.ensures))) (λ v r. r c.args.tokens.now (made c.in_ok-blocks.ensures.parsed)) c.annotated_items.ensures

pub returns-in-Div : goal.returns-in-Div
returns-in-Div c =
    at_rest (turn (read begin c.in_ok-blocks.ensures.parsed) (ap part.annotated_move (sym c.in-Div.ensures))) (λ v r. r c.args.tokens.now (made c.in_ok-blocks.ensures.parsed)) c.annotated_items-in-Div.ensures

pub returns-in-Include : goal.returns-in-Include
returns-in-Include c =
    at_rest (turn (read begin c.in_ok-blocks.ensures.parsed) (ap part.annotated_move (sym c.in-Include.ensures))) (λ v r. r c.args.tokens.now (made c.in_ok-blocks.ensures.parsed)) c.annotated_items-in-Include.ensures

pub returns-in-Annotated : goal.returns-in-Annotated
returns-in-Annotated c =
    at_rest (turn (read begin c.in_ok-blocks.ensures.parsed) (ap part.annotated_move (sym c.in-Annotated.ensures))) (λ v r. r c.args.tokens.now (made c.in_ok-blocks.ensures.parsed)) c.annotated_pattern.ensures

pub returns-in-Prefixed : goal.returns-in-Prefixed
returns-in-Prefixed c =
    at_rest (turn (read begin c.in_ok-blocks.ensures.parsed) (ap part.annotated_move (sym c.in-Prefixed.ensures))) (λ v r. r c.args.tokens.now (made c.in_ok-blocks.ensures.parsed)) c.annotated_pattern-in-Prefixed.ensures

pub returns-in-End : goal.returns-in-End
returns-in-End c =
    at_rest (turn (read begin c.in_ok-blocks.ensures.parsed) (ap part.annotated_move (sym c.in-End.ensures))) (λ v r. r c.args.tokens.now (made c.in_ok-blocks.ensures.parsed)) c.annotated_pattern-in-End.ensures

pub returns-in-Other : goal.returns-in-Other
returns-in-Other c =
    at_rest (turn (read begin c.in_ok-blocks.ensures.parsed) (ap part.annotated_move (sym c.in-Other.ensures))) (λ v r. r c.args.tokens.now (made c.in_ok-blocks.ensures.parsed)) c.annotated_pattern-in-Other.ensures
