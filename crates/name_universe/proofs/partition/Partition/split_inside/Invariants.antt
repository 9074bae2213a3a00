use Rattle.std.proofs.Common.{length}
use Rattle.name_classes.specs.Views.{class_of}
use Rattle.name_universe.proofs.Sides.{IsTaking}
use Rattle.name_universe.proofs.partition.Partition.split_inside.Given as goal

-- the members that aren't left are split off
abbrev pub invariant-members : goal.invariant-members
invariant-members l = IsTaking l.names.names (class_of l.class) l.members.keys l.number l.initial.self.blocks.items l.self.blocks.items l.initial.self.splits.keys l.self.splits.keys

abbrev pub decreases-members : goal.decreases-members
decreases-members l = length l.members.keys
