use Rattle.name_universe.specs.Partitions.{IsPartition}
use Rattle.name_universe.proofs.Gathering.{IsClassBelow}
use Rattle.name_universe.proofs.alike.alike_elements.Given as goal

-- the blocks by the classes before this one
abbrev pub invariant-loop-element : goal.invariant-loop-element
invariant-loop-element l = IsPartition (IsClassBelow l.schema.schema.elements l.element) l.names.names l.element l.partition.blocks.items l.partition.splits.keys
