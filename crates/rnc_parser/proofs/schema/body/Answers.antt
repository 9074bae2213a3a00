use Rattle.std.proofs.Common.{sym, ap}
use Rattle.syntax_laws.specs.Expecting as part
use Rattle.rnc_parser.proofs.Steps.{instead}
use Rattle.rnc_parser.proofs.schema.body.Goals as goal

pub returns-in-Annotated : goal.returns-in-Annotated
returns-in-Annotated c =
    instead (ap part.body_move (sym c.in-Annotated.ensures)) (λ v r. r) c.annotated_body.ensures

pub returns-in-Named : goal.returns-in-Named
returns-in-Named c =
    instead (ap part.body_move (sym c.in-Named.ensures)) (λ v r. r) c.named_body.ensures

pub returns-in-Prefixed : goal.returns-in-Prefixed
returns-in-Prefixed c =
    instead (ap part.body_move (sym c.in-Prefixed.ensures)) (λ v r. r) c.typed_body.ensures

pub returns-in-Other : goal.returns-in-Other
returns-in-Other c =
    instead (ap part.body_move (sym c.in-Other.ensures)) (λ v r. r) c.pattern_body.ensures

pub returns-in-Start : goal.returns-in-Start
returns-in-Start c =
    instead (ap part.body_move (sym c.in-Start.ensures)) (λ v r. r) c.items_body.ensures

pub returns-in-Div : goal.returns-in-Div
returns-in-Div c =
    instead (ap part.body_move (sym c.in-Div.ensures)) (λ v r. r) c.items_body-in-Div.ensures

pub returns-in-Include : goal.returns-in-Include
returns-in-Include c =
    instead (ap part.body_move (sym c.in-Include.ensures)) (λ v r. r) c.items_body-in-Include.ensures

pub returns-in-End : goal.returns-in-End
returns-in-End c =
    instead (ap part.body_move (sym c.in-End.ensures)) (λ v r. r) c.items_body-in-End.ensures
