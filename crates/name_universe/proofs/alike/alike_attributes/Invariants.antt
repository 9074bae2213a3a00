use Rattle.std.proofs.Common.{take}
use Rattle.pattern_intern.specs.Attributes.{HasClass}
use Rattle.name_universe.specs.Partitions.{IsPartition}
use Rattle.name_universe.proofs.alike.alike_attributes.Given as goal

-- the blocks by the classes before this one
abbrev pub invariant-loop-number : goal.invariant-loop-number
invariant-loop-number l = IsPartition (HasClass l.schema.pool (take l.number l.classes.items)) l.names.names l.number l.partition.blocks.items l.partition.splits.keys
