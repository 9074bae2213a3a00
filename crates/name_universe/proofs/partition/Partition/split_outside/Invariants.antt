use Rattle.name_classes.specs.Views.{class_of}
use Rattle.name_universe.specs.Partitions.{AreSplit}
use Rattle.name_universe.proofs.Sides.{IsBelow}
use Rattle.name_universe.proofs.partition.Partition.split_outside.Given as goal

-- the names before this one are split off
abbrev pub invariant-loop-position : goal.invariant-loop-position
invariant-loop-position l = AreSplit (IsBelow l.names (class_of l.class) l.position) l.number l.initial.self.blocks.items l.self.blocks.items l.initial.self.splits.keys l.self.splits.keys
