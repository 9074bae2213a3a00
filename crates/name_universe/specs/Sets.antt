-- Sets and maps of names that grow.
use Rattle.std.specs.Prelude.{◌≡◌, ℕ, ◌⊎◌, ◌↔◌, Some, Option, List, IsSome, Contains}
use Rattle.std.specs.BTreeMap as tree
use Rattle.std.specs.BTreeMap.{BTreeMap}
use Rattle.rng_model.specs.Texts.{Text}
use Rattle.rng_model.specs.Names.{Name, name_cmp}
use Rattle.name_universe.specs.declared.origin.Origin.{Origin}

-- the second list has the members of the first and the others, in any order
pub record Adds (X : Type 0) (old new others : List X) : Type 0 where
  pub each : (x : X) → Contains new x ↔ (Contains old x ⊎ Contains others x)

-- the origin that a map has for a name
abbrev pub origin_in : BTreeMap Name Origin → Name → Option Origin
origin_in m n = tree.get name_cmp m n

-- the second map has besides the names of the first those of G, with this origin
pub record Puts (f g : Name → Option Origin) (o : Origin) (G : Name → Type 0) : Type 0 where
  pub gives : (n : Name) (p : Origin) → g n ≡ Some p → (f n ≡ Some p) ⊎ ((p ≡ o) × G n)
  pub kept : (n : Name) → IsSome (f n) → IsSome (g n)
  pub given : (n : Name) → G n → IsSome (g n)

-- a name of the namespace with this local name is one of the names
abbrev pub IsTakenIn : List Name → Text → Text → Type 0
IsTakenIn names u l = Contains names (record { ns = u; local = l })
