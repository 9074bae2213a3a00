use Rattle.std.proofs.Common.{◌∙◌}
use Rattle.restrictions.proofs.Outcomes.{if_ok, listed}
use Rattle.restrictions.proofs.Sharing.{attributes_break, attributes_found}
use Rattle.restrictions.proofs.rules.attributes_meet.Goals as goal

pub returns-clause-yes : goal.returns-clause-yes
returns-clause-yes c =
    if_ok _ _ c.some_name_meets.result c.some_name_meets.ensures.yes
    (λ b f e. let x = f e in attributes_break c.args.schema.now.schema x.0 x.1 x.2)

pub returns-clause-no : goal.returns-clause-no
returns-clause-no c =
    if_ok _ _ c.some_name_meets.result c.some_name_meets.ensures.no
    (λ b f e w.
    let x = attributes_found c.args.schema.now.schema c.args.universe.now.attributes c.requires.attributes w in
    let l = listed c.args.universe.now.attributes.names x.0 x.2 in
    f e l.0 x.0 (rw (c.as_slice-names.ensures ∙ c.attributes.ensures.list) l.1) x.1)
