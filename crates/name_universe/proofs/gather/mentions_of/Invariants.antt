use Rattle.std.proofs.Common.{take}
use Rattle.pattern_intern.specs.Attributes.{HasClass}
use Rattle.name_universe.specs.Tables.{AreMentions}
use Rattle.name_universe.proofs.gather.mentions_of.Given as goal

-- what the classes before this one mention
abbrev pub invariant-loop-id : goal.invariant-loop-id
invariant-loop-id l = AreMentions (HasClass l.schema.pool (take l.id-index l.classes)) l.names.keys l.spaces.keys
