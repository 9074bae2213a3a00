-- What is known of nodes.
use Rattle.std.proofs.Common.{◌≡◌, ℕ, suc, refl}
use Rattle.rng_model.specs.Patterns.{Pattern, choice}
use Rattle.pattern_intern.specs.Comparisons.{IsPlain}
use Rattle.rng_model.specs.Depths.{in_choice}

-- a choice is one level deeper than a last member that is no choice
pub in_plain : (p : Pattern) (d : ℕ) → IsPlain p → in_choice p d ≡ suc d
in_plain (choice p q) d h = absurd h
in_plain p d h = refl
