use Rattle.std.proofs.Common.{false}
use Rattle.rnc_parser.specs.Reading.{parsed}
use Rattle.rnc_parser.proofs.Steps.{begin, read, inside, passed_on, made}
use Rattle.rnc_parser.proofs.Tops as top
use Rattle.rnc_parser.proofs.Chains as chain
use Rattle.rnc_parser.proofs.schema.items_body.Goals as goal

pub returns-in_err-found : goal.returns-in_err-found
returns-in_err-found c =
    passed_on c.from_residual.result c.from_residual.ensures.1 (inside begin c.in_err-found.ensures.parsed)

pub returns : goal.returns
returns c =
    parsed
    (top.items_body (chain.fresh_items false c.new.result c.new.ensures (made c.in_ok-found.ensures.parsed)).0)
    (read begin c.in_ok-found.ensures.parsed)
