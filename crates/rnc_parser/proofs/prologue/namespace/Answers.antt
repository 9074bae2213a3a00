use Rattle.rnc_parser.specs.Reading.{parsed}
use Rattle.rnc_parser.proofs.Steps.{begin, read, took, inside, missing, passed_on, made}
use Rattle.rnc_parser.proofs.Shapes as shape
use Rattle.rnc_parser.proofs.prologue.namespace.Goals as goal

pub returns-in_err-at-clause-parsed : goal.returns-in_err-at-clause-parsed
returns-in_err-at-clause-parsed c =
    passed_on c.from_residual.result c.from_residual.ensures.1 (missing _ begin c.in_err-at.ensures)

pub returns-in_err-prefix-clause-parsed : goal.returns-in_err-prefix-clause-parsed
returns-in_err-prefix-clause-parsed c =
    passed_on c.from_residual-in_err-prefix.result c.from_residual-in_err-prefix.ensures.1 (missing _ (took begin c.in_ok-at.ensures) c.in_err-prefix.ensures)

pub returns-in_err-symbol-clause-parsed : goal.returns-in_err-symbol-clause-parsed
returns-in_err-symbol-clause-parsed c =
    passed_on c.from_residual-in_err-symbol.result c.from_residual-in_err-symbol.ensures.1 (missing _ (took (took begin c.in_ok-at.ensures) c.in_ok-prefix.ensures) c.in_err-symbol.ensures)

pub returns-in_err-uri-clause-parsed : goal.returns-in_err-uri-clause-parsed
returns-in_err-uri-clause-parsed c =
    passed_on c.from_residual-in_err-uri.result c.from_residual-in_err-uri.ensures.1 (inside (took (took (took begin c.in_ok-at.ensures) c.in_ok-prefix.ensures) c.in_ok-symbol.ensures) c.in_err-uri.ensures.parsed)

pub returns-clause-parsed : goal.returns-clause-parsed
returns-clause-parsed c =
    parsed
    (shape.namespace_read c.in_ok-at.ensures c.in_ok-prefix.ensures c.in_ok-symbol.ensures (made c.in_ok-uri.ensures.parsed))
    (read (took (took (took begin c.in_ok-at.ensures) c.in_ok-prefix.ensures) c.in_ok-symbol.ensures) c.in_ok-uri.ensures.parsed)
