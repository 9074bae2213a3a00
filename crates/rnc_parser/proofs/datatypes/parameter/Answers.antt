use Rattle.std.proofs.Common.{refl}
use Rattle.rnc_parser.specs.Reading.{parsed}
use Rattle.rnc_parser.proofs.Steps.{begin, turn, read, took, inside, missing, passed_on, made}
use Rattle.rnc_parser.proofs.Shapes as shape
use Rattle.rnc_parser.proofs.datatypes.parameter.Goals as goal

pub returns-in_err-blocks-clause-parsed : goal.returns-in_err-blocks-clause-parsed
returns-in_err-blocks-clause-parsed c =
    passed_on c.from_residual.result c.from_residual.ensures.1 (inside (turn begin refl) c.in_err-blocks.ensures.parsed)

pub returns-in_err-name-clause-parsed : goal.returns-in_err-name-clause-parsed
returns-in_err-name-clause-parsed c =
    passed_on c.from_residual-in_err-name.result c.from_residual-in_err-name.ensures.1 (missing _ (read (turn begin refl) c.in_ok-blocks.ensures.parsed) c.in_err-name.ensures)

pub returns-in_err-_equals-clause-parsed : goal.returns-in_err-_equals-clause-parsed
returns-in_err-_equals-clause-parsed c =
    passed_on c.from_residual-in_err-_equals.result c.from_residual-in_err-_equals.ensures.1 (missing _ (took (read (turn begin refl) c.in_ok-blocks.ensures.parsed) c.in_ok-name.ensures) c.in_err-_equals.ensures)

pub returns-in_err-literal-clause-parsed : goal.returns-in_err-literal-clause-parsed
returns-in_err-literal-clause-parsed c =
    passed_on c.from_residual-in_err-literal.result c.from_residual-in_err-literal.ensures.1 (inside (took (took (read (turn begin refl) c.in_ok-blocks.ensures.parsed) c.in_ok-name.ensures) c.in_ok-_equals.ensures) c.in_err-literal.ensures.parsed)

pub returns-clause-parsed : goal.returns-clause-parsed
returns-clause-parsed c =
    parsed
    (shape.parameter_read (made c.in_ok-blocks.ensures.parsed) c.in_ok-name.ensures c.in_ok-_equals.ensures (made c.in_ok-literal.ensures.parsed))
    (read (took (took (read (turn begin refl) c.in_ok-blocks.ensures.parsed) c.in_ok-name.ensures) c.in_ok-_equals.ensures) c.in_ok-literal.ensures.parsed)
