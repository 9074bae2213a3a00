use Rattle.rnc_parser.specs.Reading.{parsed, no_memory}
use Rattle.rnc_parser.proofs.Steps.{begin, read, inside, passed_on, made}
use Rattle.rnc_parser.proofs.Tops as top
use Rattle.rnc_parser.proofs.schema.annotated_items.Goals as goal

pub returns-in_err-first : goal.returns-in_err-first
returns-in_err-first c =
    passed_on c.from_residual.result c.from_residual.ensures.1 (inside begin c.in_err-first.ensures.parsed)

pub returns-in_err-push : goal.returns-in_err-push
returns-in_err-push c =
    passed_on c.from_residual-in_err-push.result c.from_residual-in_err-push.ensures.1 no_memory

pub returns-in_err-found : goal.returns-in_err-found
returns-in_err-found c =
    passed_on c.from_residual-in_err-found.result c.from_residual-in_err-found.ensures.1 (inside (read begin c.in_ok-first.ensures.parsed) c.in_err-found.ensures.parsed)

pub returns : goal.returns
returns c =
    parsed
    (λ start b. top.items_body (top.first_item c.new-found.result c.push.new.self c.in_ok-first.first c.new-found.ensures c.in_ok-push.ensures.ok b (made c.in_ok-first.ensures.parsed).0 (made c.in_ok-found.ensures.parsed)))
    (read (read begin c.in_ok-first.ensures.parsed) c.in_ok-found.ensures.parsed)
