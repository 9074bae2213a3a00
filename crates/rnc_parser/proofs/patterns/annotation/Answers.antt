use Rattle.rnc_parser.specs.Reading.{parsed}
use Rattle.rnc_parser.proofs.Steps.{begin, read, took, inside, missing, passed_on, made}
use Rattle.rnc_parser.proofs.Shapes as shape
use Rattle.rnc_parser.proofs.patterns.annotation.Goals as goal

pub returns-in_err-_name-clause-parsed : goal.returns-in_err-_name-clause-parsed
returns-in_err-_name-clause-parsed c =
    passed_on c.from_residual.result c.from_residual.ensures.1 (missing _ begin c.in_err-_name.ensures)

pub returns-in_err-block-clause-parsed : goal.returns-in_err-block-clause-parsed
returns-in_err-block-clause-parsed c =
    passed_on c.from_residual-in_err-block.result c.from_residual-in_err-block.ensures.1 (inside (took begin c.in_ok-_name.ensures) c.in_err-block.ensures.parsed)

pub returns-clause-parsed : goal.returns-clause-parsed
returns-clause-parsed c =
    parsed
    (shape.annotation_read c.in_ok-_name.ensures (made c.in_ok-block.ensures.parsed))
    (read (took begin c.in_ok-_name.ensures) c.in_ok-block.ensures.parsed)
