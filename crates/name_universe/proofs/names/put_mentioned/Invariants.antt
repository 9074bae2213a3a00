use Rattle.std.proofs.Common.{length}
use Rattle.name_universe.specs.Sets.{origin_in}
use Rattle.name_universe.specs.declared.origin.Origin.TheVariants.{Mentioned}
use Rattle.name_universe.proofs.Popping.{IsPutInto}
use Rattle.name_universe.proofs.names.put_mentioned.Given as goal

-- what isn't left is put
abbrev pub invariant-names : goal.invariant-names
invariant-names l = IsPutInto (origin_in l.initial.names) (origin_in l.names) Mentioned l.initial.mentioned.keys l.mentioned.keys

abbrev pub decreases-names : goal.decreases-names
decreases-names l = length l.mentioned.keys
