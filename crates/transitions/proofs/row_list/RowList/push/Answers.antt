use Rattle.std.proofs.Common.{◌++◌, ◌∷◌, [], ◌∙◌, ap}
use Rattle.transitions.proofs.Ending.{ends_pushed, rows_pushed}
use Rattle.transitions.proofs.row_list.RowList.push.Goals as goal

pub invariant_of-self-2 : goal.invariant_of-self-2
invariant_of-self-2 c =
    rw (c.in_ok-push.ensures.items, c.reserve.ensures.items, c.len.ensures ∙ c.extend_from_slice.new.self.ok.0, c.in_ok-extend_from_slice.ensures.items)
    (ends_pushed c.self.inside.arcs.items c.args.row.now 0 c.self.inside.ends.items c.self.invariant)

pub returns-clause-ok : goal.returns-clause-ok
returns-clause-ok c =
    rw (c.in_ok-push.ensures.items, c.reserve.ensures.items, c.len.ensures ∙ c.extend_from_slice.new.self.ok.0, c.in_ok-extend_from_slice.ensures.items)
    (rows_pushed c.self.inside.arcs.items c.args.row.now 0 c.self.inside.ends.items c.self.invariant)
    ∙ ap (λ rows. rows ++ c.args.row.now ∷ []) c.self.view_is
