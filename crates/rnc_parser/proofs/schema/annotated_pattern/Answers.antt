use Rattle.rnc_parser.specs.Reading.{parsed}
use Rattle.rnc_parser.proofs.Steps.{begin, read, inside, passed_on, made}
use Rattle.rnc_parser.proofs.Tops as top
use Rattle.rnc_parser.proofs.schema.annotated_pattern.Goals as goal

pub returns-in_err-first : goal.returns-in_err-first
returns-in_err-first c =
    passed_on c.from_residual.result c.from_residual.ensures.1 (inside begin c.in_err-first.ensures.parsed)

pub returns-in_err-found : goal.returns-in_err-found
returns-in_err-found c =
    passed_on c.from_residual-in_err-found.result c.from_residual-in_err-found.ensures.1 (top.inside_rest (read begin c.in_ok-first.ensures.parsed) c.in_err-found.ensures)

pub returns : goal.returns
returns c =
    parsed
    (λ start b. top.pattern_body ((made c.in_ok-found.ensures) start c.args.tokens.now b (made c.in_ok-first.ensures.parsed)))
    (top.read_rest (read begin c.in_ok-first.ensures.parsed) c.in_ok-found.ensures)
