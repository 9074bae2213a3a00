use Rattle.std.proofs.Common.{◌≤◌, codes}
use Rattle.rng_model.specs.Fresh.{HasFree}
use Rattle.name_universe.specs.Sets.{IsTakenIn, Puts, origin_in}
use Rattle.name_universe.proofs.Putting.{IsBelow}
use Rattle.name_universe.proofs.fresh.put_fresh.Given as goal

-- of the numbers before this one, so many make no mentioned name, and these are put
abbrev pub invariant-loop-number : goal.invariant-loop-number
invariant-loop-number l =
    (l.found ≤ l.fresh) × HasFree (IsTakenIn l.taken.keys l.ns) (codes "x") l.number l.found × Puts (origin_in l.initial.names) (origin_in l.names) l.origin (IsBelow l.taken.keys l.ns l.number)
