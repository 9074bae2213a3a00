use Rattle.std.proofs.Common.{take}
use Rattle.std.specs.List.{AllByRecursion}
use Rattle.name_universe.specs.PartNames.{IsNamedPart}
use Rattle.name_universe.proofs.overlaps.is_named.Given as goal

-- the parts so far
abbrev pub invariant-loop-part : goal.invariant-loop-part
invariant-loop-part l = AllByRecursion IsNamedPart (take l.part-index l.part-items)
