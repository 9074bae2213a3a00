use Rattle.std.proofs.Common.{ℕ, ◌<◌, Contains, codes}
use Rattle.rng_model.specs.Fresh.{numbered}
use Rattle.text_atoms.proofs.fresh.first_free.Given as goal

-- those before this number are taken
abbrev pub invariant-loop-number : goal.invariant-loop-number
invariant-loop-number l = (j : ℕ) → j < l.number → Contains l.taken.keys (numbered (codes "t") j)
