use Rattle.std.proofs.Common.{◌++◌, arith, ap, sym, ◌∙◌, flat_map}
use Rattle.std.specs.List.{range_with_len}
use Rattle.seeded_schema.specs.Made.{item_line, start_line}
use Rattle.seeded_schema.proofs.Pieces.{two}
use Rattle.seeded_schema.proofs.Ranges.{flat_map-more, whole}
use Rattle.seeded_schema.proofs.make.Goals as goal

pub loop-item-preserved : goal.loop-item-preserved
loop-item-preserved c =
    two start_line c.loop-item.text.items c.push_item.new.text.items
    (flat_map (item_line c.args.number) (range_with_len 0 c.loop-item.item)) (item_line c.args.number c.loop-item.item)
    c.loop-item.invariant c.in_ok-push_item.ensures
    ∙ ap (λ z. start_line ++ z) (sym (flat_map-more (item_line c.args.number) 0 c.loop-item.item c.loop-item.item (omega arith)))

pub returns : goal.returns
returns c = record { made = whole c.args.number c.loop-item.text.items c.loop-item.item (omega arith) c.loop-item.invariant }
