-- The names of a list with their origins, and the names that stand for others.
use Rattle.std.specs.Prelude.{◌≡◌, ℕ, ◌<◌, ◌⊎◌, ◌↔◌, List, Some, Contains, map, length, slice_get, codes}
use Rattle.std.specs.List.Sorted.{IsStrictlySortedBy}
use Rattle.std.specs.Ordering.{nat_cmp}
use Rattle.std.specs.Cmp.Lexicographic.{slice_cmp}
use Rattle.rng_model.specs.Texts.{Text}
use Rattle.rng_model.specs.Names.{Name, name_cmp}
use Rattle.rng_model.specs.Classes.{Class}
use Rattle.rng_model.specs.Patterns.{Schema}
use Rattle.rng_model.specs.Fresh.{numbered, IsFirstFree}
use Rattle.rng_model.specs.Universe.{IsElementClass, IsAttributeClass, IsMentioned, IsMentionedSpace, IsFreshLocal, IsFreshSpace, AreNames, NameStandsFor}
use Rattle.name_universe.specs.declared.origin.Origin.{Origin}
use Rattle.name_universe.specs.declared.origin.Origin.TheVariants.{Mentioned, FreshLocal, FreshSpace}

-- what an origin says of a name, over the classes that C holds of
abbrev pub HasOrigin : (Class → Type 0) → ℕ → Origin → Name → Type 0
HasOrigin C fresh Mentioned n = IsMentioned C n
HasOrigin C fresh FreshLocal n = IsMentionedSpace C n.ns × IsFreshLocal C fresh n.ns n.local
HasOrigin C fresh FreshSpace n = IsFreshSpace C n.ns × ((k : ℕ) × (k < fresh) × (n.local ≡ numbered (codes "x") k))

-- The names and, beside each, its origin; each mentioned namespace beside its first fresh name; and `x` in the fresh namespace.
pub record NameTable : Type 0 where
  pub names : List Name
  pub origins : List Origin
  pub firsts : List (Text × Name)
  pub foreign : Name

abbrev pub spaces_of : List (Text × Name) → List Text
spaces_of firsts = map (λ f. f.0) firsts

-- what is so of every table: names and namespaces ascend, each once, and what stands for others is one of the names
pub record IsTable (t : NameTable) : Type 0 where
  pub ascending : IsStrictlySortedBy name_cmp t.names
  pub same_length : length t.origins ≡ length t.names
  pub spaces : IsStrictlySortedBy (slice_cmp nat_cmp) (spaces_of t.firsts)
  pub listed : (u : Text) (m : Name) → Contains t.firsts (u, m) → Contains t.names m
  pub foreign : Contains t.names t.foreign

-- m stands for n, which isn't mentioned: the first fresh name of its namespace, or the name in the fresh namespace
abbrev pub IsStandIn : NameTable → Name → Name → Type 0
IsStandIn t n m = Contains t.firsts (n.ns, m) ⊎ ((Contains (spaces_of t.firsts) n.ns → ⊥) × (m ≡ t.foreign))

-- the table of the classes that C holds of, with so many fresh names in each namespace
pub record IsTableOf (C : Class → Type 0) (fresh : ℕ) (t : NameTable) : Type 0 where
  pub are : AreNames C fresh t.names
  pub origins : (i : ℕ) (n : Name) (o : Origin) → slice_get t.names i ≡ Some n → slice_get t.origins i ≡ Some o → HasOrigin C fresh o n
  pub spaces : (u : Text) → IsMentionedSpace C u ↔ Contains (spaces_of t.firsts) u
  pub firsts : (u : Text) (m : Name) → Contains t.firsts (u, m) →
      (m.ns ≡ u) × IsFirstFree (λ l. IsMentioned C (record { ns = u; local = l })) (codes "x") m.local
  pub foreign : IsFreshSpace C t.foreign.ns × (t.foreign.local ≡ codes "x")

-- the name at this position stands for n
pub record StandsAt (C : Class → Type 0) (names : List Name) (n : Name) (position : ℕ) : Type 0 where
  pub name : Name
  pub at : slice_get names position ≡ Some name
  pub stands : NameStandsFor C n name

-- the names and the namespaces are those that the classes mention
pub record AreMentions (C : Class → Type 0) (in_names : List Name) (in_spaces : List Text) : Type 0 where
  pub names : (n : Name) → Contains in_names n ↔ IsMentioned C n
  pub spaces : (u : Text) → Contains in_spaces u ↔ IsMentionedSpace C u

-- the names for elements and the names for attributes
pub record NameTables : Type 0 where
  pub elements : NameTable
  pub attributes : NameTable

-- those of a schema, with so many fresh names in each namespace
pub record IsUniverse (g : Schema) (fresh : ℕ) (u : NameTables) : Type 0 where
  pub elements : IsTableOf (IsElementClass g) fresh u.elements
  pub attributes : IsTableOf (IsAttributeClass g) fresh u.attributes
