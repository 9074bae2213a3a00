-- The numbers of states, size by size: this project's own.
use Rattle.std.specs.Prelude.{◌≡◌, ℕ, ◌+◌, ◌↔◌, List, [], ◌∷◌, length, Contains, ⊤}
use Rattle.rng_model.specs.Patterns.{Schema}
use Rattle.rng_model.specs.Universe.{Lists}
use Rattle.rng_model.specs.States.{State, Reach, AreDistinct}
use Rattle.listing_laws.specs.Pending.{Asked, IsStop, Ending}

-- so many states are reached with m nodes
pub record ReachesExactly (g : Schema) (u : Lists) (m count : ℕ) : Type 0 where
  pub states : List State
  pub distinct : AreDistinct states
  pub each : (s : State) → Contains states s ↔ Reach g u m s
  pub many : length states ≡ count

-- the numbers for the sizes from the first on
abbrev pub AreCounts : Schema → Lists → ℕ → List ℕ → Type 0
AreCounts g u from [] = ⊤
AreCounts g u from (count ∷ counts) = ReachesExactly g u from count × AreCounts g u (from + 1) counts

-- how counting ends, and the numbers of states for the sizes below the one where it stops, or for all
pub data EndsCounting (a : Asked) : Ending → List ℕ → Type 0 where
  stopped : {m : ℕ} {counts : List ℕ} →
      IsStop a m → AreCounts a.schema a.lists 1 counts → length counts + 1 ≡ m → EndsCounting a (Ending.stopped m) counts
  whole : {counts : List ℕ} →
      ((m : ℕ) → IsStop a m → ⊥) → AreCounts a.schema a.lists 1 counts → length counts ≡ a.size → EndsCounting a Ending.whole counts
