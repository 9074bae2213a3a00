use Rattle.std.proofs.Common.{ℕ, ◌<◌, Contains, codes}
use Rattle.rng_model.specs.Fresh.{numbered}
use Rattle.name_universe.proofs.fresh.fresh_space.Given as goal

-- those before this number are mentioned
abbrev pub invariant-loop-number : goal.invariant-loop-number
invariant-loop-number l = (j : ℕ) → j < l.number → Contains l.spaces.keys (numbered (codes "urn:x") j)
