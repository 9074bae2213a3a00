-- None of the names before the next is in the set.
use Rattle.std.proofs.Common.{◌≡◌, ℕ, ◌<◌, true, Some, slice_get}
use Rattle.rng_model.specs.Names.{Name}
use Rattle.restrictions.specs.NameSets.{has}
use Rattle.restrictions.proofs.shared.has_any.Given as goal

abbrev pub invariant-loop-position : goal.invariant-loop-position
invariant-loop-position l = (k : ℕ) (n : Name) → k < l.position → slice_get l.names k ≡ Some n → has l.set k ≡ true → ⊥
