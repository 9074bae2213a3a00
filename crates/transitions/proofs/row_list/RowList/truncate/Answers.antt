use Rattle.std.proofs.Common.{◌∙◌, ap, take}
use Rattle.transitions.proofs.Ending.{ends_cut, rows_cut}
use Rattle.transitions.proofs.row_list.RowList.truncate.Goals as goal

pub invariant_of-self : goal.invariant_of-self
invariant_of-self c =
    rw (c.truncate-2.ensures.items, c.start_of-end.ensures, c.len.ensures ∙ c.truncate.new.self.ok.0, c.deref.ensures.value, c.truncate.ensures.items)
    (ends_cut c.self.inside.arcs.items 0 c.self.inside.ends.items c.args.count c.self.invariant)

pub returns : goal.returns
returns c =
    rw (c.truncate-2.ensures.items, c.start_of-end.ensures, c.len.ensures ∙ c.truncate.new.self.ok.0, c.deref.ensures.value, c.truncate.ensures.items)
    (rows_cut c.self.inside.arcs.items 0 c.self.inside.ends.items c.args.count c.self.invariant)
    ∙ ap (take c.args.count) c.self.view_is
