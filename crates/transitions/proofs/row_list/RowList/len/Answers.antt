use Rattle.std.proofs.Common.{List, length, ◌∙◌, ap, sym}
use Rattle.transitions.specs.declared.arc.Arc.{Arc}
use Rattle.transitions.proofs.Ending.{length_rows}
use Rattle.transitions.proofs.row_list.RowList.len.Goals as goal

pub returns : goal.returns
returns c =
    c.len.ensures ∙ c.self.inside.ends.ok.0 ∙ sym (length_rows c.self.inside.arcs.items 0 c.self.inside.ends.items) ∙ ap (λ (rows : List (List Arc)). length rows) c.self.view_is
