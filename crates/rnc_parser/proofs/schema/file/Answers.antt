use Rattle.grammar_laws.specs.Grammar as by
use Rattle.grammar_laws.specs.Grammar.{ReadsItem, DerivesBody}
use Rattle.rnc_parser.specs.Reading.{parsed}
use Rattle.rnc_parser.proofs.Steps.{begin, read, inside, passed_on, made}
use Rattle.rnc_parser.proofs.Tops as top
use Rattle.rnc_parser.proofs.schema.file.Goals as goal

pub returns-in_err-declarations : goal.returns-in_err-declarations
returns-in_err-declarations c =
    passed_on c.from_residual.result c.from_residual.ensures.1 (inside begin c.in_err-declarations.ensures)

pub returns-in_err-body : goal.returns-in_err-body
returns-in_err-body c =
    passed_on c.from_residual-in_err-body.result c.from_residual-in_err-body.ensures.1 (inside (read begin c.in_ok-declarations.ensures) c.in_err-body.ensures)

pub returns-in_err-end : goal.returns-in_err-end
returns-in_err-end c =
    passed_on c.from_residual-in_err-end.result c.from_residual-in_err-end.ensures.1 (top.not_at_end _ (read (read begin c.in_ok-declarations.ensures) c.in_ok-body.ensures) c.in_err-end.ensures)

pub returns : goal.returns
returns c =
    parsed
    (by.top (made c.in_ok-declarations.ensures) ((made c.in_ok-body.ensures) c.in_ok-end.ensures))
    (top.at_end (read (read begin c.in_ok-declarations.ensures) c.in_ok-body.ensures) c.in_ok-end.ensures)
