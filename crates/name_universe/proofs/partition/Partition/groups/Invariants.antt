use Rattle.std.proofs.Common.{take}
use Rattle.name_universe.proofs.Renumbering.{IsRenumbered}
use Rattle.name_universe.proofs.partition.Partition.groups.Given as goal

-- the groups of the positions before this one
abbrev pub invariant-loop-block : goal.invariant-loop-block
invariant-loop-block l = IsRenumbered (take l.block-index l.block-items) l.groups l.seen.keys
