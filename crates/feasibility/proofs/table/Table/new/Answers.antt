use Rattle.std.proofs.Common.{◌≡◌, ◌≤◌, ◌∙◌, sym, subst}
use Rattle.feasibility.specs.Exploring.{schema}
use Rattle.feasibility.specs.Tables.{Table}
use Rattle.feasibility.proofs.Tabling.{if_ok_map, listable_from}
use Rattle.feasibility.proofs.table.Table.new.Goals as goal

pub over-requires-clause-listable : goal.over-requires-clause-listable
over-requires-clause-listable c =
    let o = c.in_ok-explorer.ensures in
    listable_from c.in_ok-explorer.explorer _ _ _ o.schema o.lists.0 o.lists.1 c.are_listable.ensures

pub over-requires-clause-some : goal.over-requires-clause-some
over-requires-clause-some c = subst (λ n. 1 ≤ n) (sym c.in_ok-explorer.ensures.limit) c.requires.some

pub over-requires-clause-most : goal.over-requires-clause-most
over-requires-clause-most c = subst (λ n. n ≤ 1000000) (sym c.in_ok-explorer.ensures.limit) c.requires.most

pub returns-clause-schema : goal.returns-clause-schema
returns-clause-schema c =
    if_ok_map c.over.result (λ (t : Table). t.schema ≡ schema c.in_ok-explorer.explorer) (λ (t : Table). t.schema ≡ c.args.schema.schema) (λ t e. e ∙ c.in_ok-explorer.ensures.schema)
    c.over.ensures.schema

pub returns-clause-lists : goal.returns-clause-lists
returns-clause-lists c =
    if_ok_map c.over.result (λ (t : Table). (t.universe ≡ c.in_ok-explorer.explorer.derivatives.universe) × (t.atoms ≡ c.in_ok-explorer.explorer.derivatives.atoms))
    (λ (t : Table). (t.universe ≡ c.args.universe) × (t.atoms ≡ c.args.atoms)) (λ t e. (e.0 ∙ c.in_ok-explorer.ensures.lists.0, e.1 ∙ c.in_ok-explorer.ensures.lists.1)) c.over.ensures.lists

pub returns-clause-limit : goal.returns-clause-limit
returns-clause-limit c =
    if_ok_map c.over.result (λ (t : Table). t.limit ≡ c.in_ok-explorer.explorer.limit) (λ (t : Table). t.limit ≡ c.args.limit) (λ t e. e ∙ c.in_ok-explorer.ensures.limit) c.over.ensures.limit
