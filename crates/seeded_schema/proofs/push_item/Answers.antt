use Rattle.std.proofs.Common.{◌++◌, codes, ap, ◌∙◌}
use Rattle.seeded_schema.specs.Made.{item_line, item_name, content, content_number}
use Rattle.seeded_schema.proofs.Pieces.{six}
use Rattle.seeded_schema.proofs.push_item.Goals as goal

pub returns : goal.returns
unfolding item_line
returns c =
    six c.args.text.now.items c.push_name.new.text.items c.extend_from_slice.new.self.items c.push_name-2.new.text.items c.extend_from_slice-2.new.self.items
    c.extend_from_slice-3.new.self.items c.extend_from_slice-4.new.self.items
    (item_name c.args.item) (codes " = element ") (item_name c.args.item) (codes " ") (content (content_number c.args.number c.args.item)) (codes "\n")
    c.in_ok-push_name.ensures c.in_ok-extend_from_slice.ensures.items c.in_ok-push_name-2.ensures c.in_ok-extend_from_slice-2.ensures.items
    (c.in_ok-extend_from_slice-3.ensures.items ∙ ap (λ z. c.extend_from_slice-2.new.self.items ++ z) c.content_of.ensures)
    c.in_ok-extend_from_slice-4.ensures.items
