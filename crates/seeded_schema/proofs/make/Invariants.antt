use Rattle.std.proofs.Common.{◌≡◌, ◌++◌, flat_map}
use Rattle.std.specs.List.{range_with_len}
use Rattle.seeded_schema.specs.Made.{item_line, start_line}
use Rattle.seeded_schema.proofs.make.Given as goal

abbrev pub invariant-loop-item : goal.invariant-loop-item
invariant-loop-item l = l.text.items ≡ start_line ++ flat_map (item_line l.number) (range_with_len 0 l.item)
