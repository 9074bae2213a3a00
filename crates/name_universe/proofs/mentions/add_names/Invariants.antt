use Rattle.std.proofs.Common.{take}
use Rattle.std.specs.Prelude.{flat_map}
use Rattle.rng_model.specs.Names.{Name}
use Rattle.name_universe.specs.PartNames.{part_names}
use Rattle.name_universe.specs.Sets.{Adds}
use Rattle.name_universe.proofs.mentions.add_names.Given as goal

-- what the parts so far add
abbrev pub invariant-loop-part : goal.invariant-loop-part
invariant-loop-part l = Adds Name l.fn.names.keys l.names.keys (flat_map part_names (take l.part-index l.part-items))
