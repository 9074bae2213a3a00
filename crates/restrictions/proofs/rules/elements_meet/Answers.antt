use Rattle.std.proofs.Common.{◌∙◌}
use Rattle.restrictions.proofs.Outcomes.{if_ok, listed}
use Rattle.restrictions.proofs.Sharing.{refs_break, refs_found}
use Rattle.restrictions.proofs.rules.elements_meet.Goals as goal

pub returns-clause-yes : goal.returns-clause-yes
returns-clause-yes c =
    if_ok _ _ c.some_name_meets.result c.some_name_meets.ensures.yes
    (λ b f e. let x = f e in refs_break c.args.schema.now.schema x.0 x.1 x.2)

pub returns-clause-no : goal.returns-clause-no
returns-clause-no c =
    if_ok _ _ c.some_name_meets.result c.some_name_meets.ensures.no
    (λ b f e w.
    let x = refs_found c.args.schema.now.schema c.args.universe.now.elements c.requires.elements w in
    let l = listed c.args.universe.now.elements.names x.0 x.2 in
    f e l.0 x.0 (rw (c.as_slice-names.ensures ∙ c.elements.ensures.list) l.1) x.1)
