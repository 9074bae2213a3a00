use Rattle.std.proofs.Common.{◌≡◌, ◌-◌, ◌++◌, codes}
use Rattle.seeded_schema.specs.Made.{item_name}
use Rattle.seeded_schema.proofs.Ranges.{parts}
use Rattle.seeded_schema.proofs.push_names.Given as goal

abbrev pub invariant-loop-item : goal.invariant-loop-item
invariant-loop-item l = l.text.items ≡ l.fn.text.items ++ parts item_name (codes ", ") (l.item - 1)
