use Rattle.std.proofs.Common.{sym, ap}
use Rattle.syntax_laws.specs.Expecting.{declaration_move}
use Rattle.rnc_parser.specs.Reading.{failed}
use Rattle.rnc_parser.proofs.Steps.{begin, stuck, instead}
use Rattle.rnc_parser.proofs.prologue.declaration.Goals as goal

pub returns-in-Namespace-clause-parsed : goal.returns-in-Namespace-clause-parsed
returns-in-Namespace-clause-parsed c =
    instead (ap declaration_move (sym c.in-Namespace.ensures)) (λ v r. r) c.namespace.ensures.parsed

pub returns-in-Default-clause-parsed : goal.returns-in-Default-clause-parsed
returns-in-Default-clause-parsed c =
    instead (ap declaration_move (sym c.in-Default.ensures)) (λ v r. r) c.default_namespace.ensures.parsed

pub returns-in-Datatypes-clause-parsed : goal.returns-in-Datatypes-clause-parsed
returns-in-Datatypes-clause-parsed c =
    instead (ap declaration_move (sym c.in-Datatypes.ensures)) (λ v r. r) c.datatypes.ensures.parsed

pub returns-in-Other-clause-parsed : goal.returns-in-Other-clause-parsed
returns-in-Other-clause-parsed c =
    failed (stuck begin (ap declaration_move (sym c.in-Other.ensures)))
