use Rattle.std.proofs.Common.{◌≡◌, ap, ◌∙◌, map, List, None, arith}
use Rattle.std.proofs.lemmas.Grind.{common_steps}
use Rattle.simple_form_laws.specs.Prefixes.{look_up}
use Rattle.name_resolution.proofs.Tables.{Entry, pair, pairs_with}
use Rattle.name_resolution.proofs.prefix_table.PrefixTable.bind.Goals as goal

pub returns-in_ok-insert : goal.returns-in_ok-insert
returns-in_ok-insert c =
    let none : look_up c.args.self.now c.args.prefix.now ≡ None = grind (arith, common_steps, c.get.ensures) in
    let before = rw (← c.self.view_is) at none in
    rw none (rw (← c.self.view_is) (ap (λ (es : List Entry). map pair es) c.in_ok-insert.ensures.entries ∙ pairs_with c.args.prefix c.args.uri c.self.inside.uris.entries before))
