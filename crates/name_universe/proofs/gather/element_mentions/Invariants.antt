use Rattle.name_universe.specs.Tables.{AreMentions}
use Rattle.name_universe.proofs.Gathering.{IsClassBelow}
use Rattle.name_universe.proofs.gather.element_mentions.Given as goal

-- what the classes before this one mention
abbrev pub invariant-loop-element : goal.invariant-loop-element
invariant-loop-element l = AreMentions (IsClassBelow l.schema.schema.elements l.element) l.names.keys l.spaces.keys
