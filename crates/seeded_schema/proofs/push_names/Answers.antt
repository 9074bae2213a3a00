use Rattle.std.proofs.Common.{codes, arith, ap, sym, ◌∙◌, ◌-◌, ◌++◌}
use Rattle.seeded_schema.specs.Made.{item_name}
use Rattle.seeded_schema.proofs.Pieces.{three}
use Rattle.seeded_schema.proofs.Ranges.{parts, parts_first, parts_more, all_parts}
use Rattle.seeded_schema.proofs.push_names.Goals as goal

pub loop-item-init : goal.loop-item-init
loop-item-init c = c.in_ok-push_name.ensures ∙ ap (λ z. c.args.text.now.items ++ z) (sym (parts_first item_name (codes ", ")))

pub loop-item-preserved : goal.loop-item-preserved
loop-item-preserved c =
    three c.args.text.now.items c.loop-item.text.items c.extend_from_slice.new.self.items c.push_name-in-loop-item.new.text.items
    (parts item_name (codes ", ") (c.loop-item.item - 1)) (codes ", ") (item_name c.loop-item.item)
    c.loop-item.invariant c.in_ok-extend_from_slice.ensures.items c.in_ok-push_name-2.ensures
    ∙ ap (λ z. c.args.text.now.items ++ z) (sym (parts_more item_name (codes ", ") c.loop-item.item (omega arith)))

pub returns : goal.returns
returns c = c.loop-item.invariant ∙ ap (λ z. c.args.text.now.items ++ z) (all_parts item_name (codes ", ") (c.loop-item.item - 1) (omega arith))
