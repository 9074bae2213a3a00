-- The rest ascends, and where none of it meets, none of the names does.
use Rattle.std.proofs.Common.{length}
use Rattle.std.specs.List.Sorted.{IsStrictlySortedBy}
use Rattle.rng_model.specs.Names.{name_cmp}
use Rattle.restrictions.specs.Shared.{IsShared}
use Rattle.restrictions.proofs.Gathering.{NoneIs}
use Rattle.restrictions.proofs.shared.some_name_meets.Given as goal

abbrev pub invariant-loop-rest : goal.invariant-loop-rest
invariant-loop-rest l =
    IsStrictlySortedBy name_cmp l.rest
    × (NoneIs (IsShared l.schema.schema l.sought) l.rest → NoneIs (IsShared l.schema.schema l.sought) l.fn.names)

abbrev pub decreases-loop-rest : goal.decreases-loop-rest
decreases-loop-rest l = length l.rest
