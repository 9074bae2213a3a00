use Rattle.std.proofs.Common.{length}
use Rattle.name_universe.specs.Sets.{origin_in}
use Rattle.name_universe.specs.declared.origin.Origin.TheVariants.{FreshLocal}
use Rattle.name_universe.proofs.Popping.{AreFreshPut}
use Rattle.name_universe.proofs.names.put_each_fresh.Given as goal

-- the fresh names of the namespaces that aren't left are put
abbrev pub invariant-spaces : goal.invariant-spaces
invariant-spaces l = AreFreshPut (origin_in l.initial.names) (origin_in l.names) FreshLocal l.taken.keys l.fresh l.initial.spaces.keys l.spaces.keys l.firsts.items

abbrev pub decreases-spaces : goal.decreases-spaces
decreases-spaces l = length l.spaces.keys
