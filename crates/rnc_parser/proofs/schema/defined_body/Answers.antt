use Rattle.schema_tree.specs.declared.tree.Item.{Define}
use Rattle.rnc_parser.specs.Reading.{parsed, no_memory}
use Rattle.rnc_parser.proofs.Steps.{begin, read, took, inside, missing, passed_on, made}
use Rattle.rnc_parser.proofs.Tops as top
use Rattle.rnc_parser.proofs.schema.defined_body.Goals as goal

pub returns-in_err-method : goal.returns-in_err-method
returns-in_err-method c =
    passed_on c.from_residual.result c.from_residual.ensures.1 (missing _ begin c.in_err-method.ensures)

pub returns-in_err-pattern : goal.returns-in_err-pattern
returns-in_err-pattern c =
    passed_on c.from_residual-in_err-pattern.result c.from_residual-in_err-pattern.ensures.1 (inside (took begin c.in_ok-method.ensures) c.in_err-pattern.ensures.parsed)

pub returns-in_err-push : goal.returns-in_err-push
returns-in_err-push c =
    passed_on c.from_residual-in_err-push.result c.from_residual-in_err-push.ensures.1 no_memory

pub returns-in_err-found : goal.returns-in_err-found
returns-in_err-found c =
    passed_on c.from_residual-in_err-found.result c.from_residual-in_err-found.ensures.1 (inside (read (took begin c.in_ok-method.ensures) c.in_ok-pattern.ensures.parsed) c.in_err-found.ensures.parsed)

pub returns : goal.returns
returns c =
    parsed
    (λ start b. top.items_body (top.first_item c.new-found.result c.push.new.self (Define c.args.name c.in_ok-method.method c.in_ok-pattern.pattern c.args.at) c.new-found.ensures c.in_ok-push.ensures.ok b (top.define_behind c.in_ok-method.method c.in_ok-pattern.pattern c.in_ok-method.ensures (made c.in_ok-pattern.ensures.parsed)) (made c.in_ok-found.ensures.parsed)))
    (read (read (took begin c.in_ok-method.ensures) c.in_ok-pattern.ensures.parsed) c.in_ok-found.ensures.parsed)
