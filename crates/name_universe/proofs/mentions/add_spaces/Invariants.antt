use Rattle.std.proofs.Common.{take}
use Rattle.std.specs.Prelude.{flat_map}
use Rattle.rng_model.specs.Texts.{Text}
use Rattle.name_universe.specs.PartNames.{part_spaces}
use Rattle.name_universe.specs.Sets.{Adds}
use Rattle.name_universe.proofs.mentions.add_spaces.Given as goal

-- what the parts so far add
abbrev pub invariant-loop-part : goal.invariant-loop-part
invariant-loop-part l = Adds Text l.fn.spaces.keys l.spaces.keys (flat_map part_spaces (take l.part-index l.part-items))
