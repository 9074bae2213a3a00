use Rattle.std.proofs.Common.{◌++◌, ◌∷◌, [], ap, ◌∙◌}
use Rattle.event_lines.proofs.Ranges.{one_more}
use Rattle.event_lines.proofs.piece_list.PieceList.push.Goals as goal

pub returns : goal.returns
returns c =
    one_more c.self.inside.bytes.items c.args.piece.now c.extend_from_slice.new.self.items c.self.inside.ranges.items c.push.new.self.items c.len-start.result c.len.result
    c.self.invariant c.in_ok-extend_from_slice.ensures.items c.in_ok-push.ensures.items (c.len-start.ensures ∙ c.self.inside.bytes.ok.0) (c.len.ensures ∙ c.extend_from_slice.new.self.ok.0)
    ∙ ap (λ xs. xs ++ c.args.piece.now ∷ []) c.self.view_is
