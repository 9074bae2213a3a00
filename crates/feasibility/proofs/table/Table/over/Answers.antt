use Rattle.std.proofs.Common.{◌∙◌, ap}
use Rattle.std.proofs.lemmas.Result.{IfOk-from_err}
use Rattle.feasibility.specs.declared.explorer.Explorer.{Explorer}
use Rattle.feasibility.specs.Exploring.{schema}
use Rattle.feasibility.proofs.Tabling.{new_states, none_spent}
use Rattle.feasibility.proofs.table.Table.over.Goals as goal

pub begin-requires-clause-states : goal.begin-requires-clause-states
begin-requires-clause-states c =
    let n = c.new-states.ensures in
    new_states c.new-states.result c.args.explorer n.explorer n.frees n.rows n.levels c.requires.listable c.requires.exploring c.requires.none c.requires.level c.requires.some c.requires.most

pub invariant_of-result : goal.invariant_of-result
invariant_of-result c = c.in_ok-begin.ensures.filled

pub returns-clause-schema : goal.returns-clause-schema
returns-clause-schema c = c.in_ok-begin.ensures.begun.finds.schema ∙ ap (λ (e : Explorer). schema e) c.new-states.ensures.explorer

pub returns-clause-lists : goal.returns-clause-lists
returns-clause-lists c = (
  c.in_ok-begin.ensures.begun.finds.universe ∙ ap (λ (e : Explorer). e.derivatives.universe) c.new-states.ensures.explorer,
  c.in_ok-begin.ensures.begun.finds.atoms ∙ ap (λ (e : Explorer). e.derivatives.atoms) c.new-states.ensures.explorer,
)

pub returns-clause-limit : goal.returns-clause-limit
returns-clause-limit c = c.in_ok-begin.ensures.begun.finds.limit ∙ ap (λ (e : Explorer). e.limit) c.new-states.ensures.explorer

pub returns-clause-empty : goal.returns-clause-empty
returns-clause-empty c = (
  c.in_ok-begin.ensures.begun.finds.level ∙ ap (λ (e : Explorer). e.level) c.new-states.ensures.explorer ∙ c.requires.level,
  none_spent c.begin.new.states c.in_ok-begin.ensures.begun.one c.in_ok-begin.ensures.begun.rows,
)

pub returns-in_err-begin-clause-schema : goal.returns-in_err-begin-clause-schema
returns-in_err-begin-clause-schema c = IfOk-from_err c.from_residual.result _ c.from_residual.ensures.0

pub returns-in_err-begin-clause-lists : goal.returns-in_err-begin-clause-lists
returns-in_err-begin-clause-lists c = IfOk-from_err c.from_residual.result _ c.from_residual.ensures.0

pub returns-in_err-begin-clause-limit : goal.returns-in_err-begin-clause-limit
returns-in_err-begin-clause-limit c = IfOk-from_err c.from_residual.result _ c.from_residual.ensures.0

pub returns-in_err-begin-clause-empty : goal.returns-in_err-begin-clause-empty
returns-in_err-begin-clause-empty c = IfOk-from_err c.from_residual.result _ c.from_residual.ensures.0
