-- The finite universe of names and texts: this project's own.
use Rattle.std.specs.Prelude.{◌≡◌, ℕ, ◌+◌, ◌*◌, ◌<◌, ◌⊎◌, ◌↔◌, true, not, List, length, count_by, Contains, IsUtf8, codes}
use Rattle.std.specs.List.{AllByRecursion}
use Rattle.std.specs.List.Sorted.{IsStrictlySortedBy}
use Rattle.std.specs.Ordering.{nat_cmp}
use Rattle.std.specs.Cmp.Lexicographic.{slice_cmp}
use Rattle.rng_model.specs.Texts.{Text, is_white}
use Rattle.rng_model.specs.Names.{Name, IsName, name_cmp}
use Rattle.rng_model.specs.Kinds.{Kind}
use Rattle.rng_model.specs.Classes.{Class, any, any_except, namespace, namespace_except, one, either}
use Rattle.rng_model.specs.Patterns.{Pattern, Schema, Definition, Defines, empty, value, data_type, data_except}
use Rattle.rng_model.specs.Inside.{InSchema, InAttribute, IsAttributeOf}
use Rattle.rng_model.specs.Fresh.{numbered, IsFirstFree, IsAmongFree}
use Rattle.rng_model.specs.Atoms.{Literals, AreAtoms}

abbrev pub IsElementClass : Schema → Class → Type 0
IsElementClass g c = (d : ℕ) × (e : Definition) × Defines g d e × (c ≡ e.class)

abbrev pub IsAttributeClass : Schema → Class → Type 0
IsAttributeClass g c = InSchema (IsAttributeOf c) g

-- the name stands in the class, inside excepts too
abbrev pub NamesName : Class → Name → Type 0
NamesName any n = ⊥
NamesName (any_except c) n = NamesName c n
NamesName (namespace u) n = ⊥
NamesName (namespace_except u c) n = NamesName c n
NamesName (one m) n = n ≡ m
NamesName (either a b) n = NamesName a n ⊎ NamesName b n

-- a name of the class has the namespace, or a namespace class names it
abbrev pub NamesSpace : Class → Text → Type 0
NamesSpace any u = ⊥
NamesSpace (any_except c) u = NamesSpace c u
NamesSpace (namespace v) u = u ≡ v
NamesSpace (namespace_except v c) u = (u ≡ v) ⊎ NamesSpace c u
NamesSpace (one m) u = u ≡ m.ns
NamesSpace (either a b) u = NamesSpace a u ⊎ NamesSpace b u

-- over the classes that C holds of
module _ (C : Class → Type 0) where
  abbrev pub IsMentioned : Name → Type 0
  IsMentioned n = (c : Class) × C c × NamesName c n

  abbrev pub IsMentionedSpace : Text → Type 0
  IsMentionedSpace u = (c : Class) × C c × NamesSpace c u

  -- a local name that no mentioned name of the namespace has, among the first of `x`, `x1`, `x2`, ..
  abbrev pub IsFreshLocal : ℕ → Text → Text → Type 0
  IsFreshLocal fresh u = IsAmongFree (λ local. IsMentioned (record { ns = u; local = local })) fresh (codes "x")

  -- the first of `urn:x`, `urn:x1`, `urn:x2`, .. that isn't mentioned
  abbrev pub IsFreshSpace : Text → Type 0
  IsFreshSpace = IsFirstFree IsMentionedSpace (codes "urn:x")

  -- a mentioned name, a fresh name of a mentioned namespace, or a name in the fresh namespace
  abbrev pub InUniverse : ℕ → Name → Type 0
  InUniverse fresh n =
      IsMentioned n
      ⊎ (IsMentionedSpace n.ns × IsFreshLocal fresh n.ns n.local)
      ⊎ (IsFreshSpace n.ns × ((k : ℕ) × (k < fresh) × (n.local ≡ numbered (codes "x") k)))

  pub record AreNames (fresh : ℕ) (names : List Name) : Type 0 where
    pub ascending : IsStrictlySortedBy name_cmp names
    pub each : (n : Name) → Contains names n ↔ InUniverse fresh n

-- Over the classes that C holds of, n stands for m. A mentioned name stands for itself, another name of a mentioned
-- namespace for the first fresh name of that namespace, and every other name for `x` in the fresh namespace.
abbrev pub NameStandsFor : (Class → Type 0) → Name → Name → Type 0
NameStandsFor C n m =
    (IsMentioned C n × (m ≡ n))
    ⊎ ((IsMentioned C n → ⊥) × IsMentionedSpace C n.ns × (m.ns ≡ n.ns) × IsFirstFree (λ l. IsMentioned C (record { ns = m.ns; local = l })) (codes "x") m.local)
    ⊎ ((IsMentionedSpace C n.ns → ⊥) × IsFreshSpace C m.ns × (m.local ≡ codes "x"))

-- a value of the simple form
abbrev pub IsLiteral : Schema → Kind × Text → Type 0
IsLiteral g x = InSchema (λ p. p ≡ value x.0 x.1) g

-- a value or datatype of the kind
abbrev pub IsOfKind : Kind → Pattern → Type 0
IsOfKind k (value l t) = k ≡ l
IsOfKind k (data_type l) = k ≡ l
IsOfKind k (data_except l e) = k ≡ l
IsOfKind k _ = ⊥

pub record AreLiterals (g : Schema) (l : Literals) : Type 0 where
  pub each : (x : Kind × Text) → Contains l.members x ↔ IsLiteral g x
  pub has_empty : (l.has_empty ≡ true) ↔ InSchema (InAttribute (λ p. p ≡ empty)) g
  pub kinds : (k : Kind) → Contains l.kinds k ↔ InSchema (IsOfKind k) g

-- the names for elements, the names for attributes, and the texts
pub record Lists : Type 0 where
  pub elements : List Name
  pub attributes : List Name
  pub atoms : List Text

-- those of a schema, with so many fresh names in each namespace, and extra texts
pub record AreLists (g : Schema) (fresh : ℕ) (extra : List Text) (u : Lists) : Type 0 where
  pub elements : AreNames (IsElementClass g) fresh u.elements
  pub attributes : AreNames (IsAttributeClass g) fresh u.attributes
  pub literals : Literals
  pub are_literals : AreLiterals g literals
  pub atoms : AreAtoms literals extra u.atoms

-- the lists ascend, so that codes compare as their events do
pub record Ascend (u : Lists) : Type 0 where
  pub elements : IsStrictlySortedBy name_cmp u.elements
  pub attributes : IsStrictlySortedBy name_cmp u.attributes
  pub atoms : IsStrictlySortedBy (slice_cmp nat_cmp) u.atoms

-- what the laws ask of the lists, whatever the schema
pub record IsAlphabet (u : Lists) : Type 0 where
  pub elements : AllByRecursion IsName u.elements
  pub attributes : AllByRecursion IsName u.attributes
  pub ascending : IsStrictlySortedBy name_cmp u.attributes
  pub atoms : AllByRecursion IsUtf8 u.atoms

-- the number of events over the lists
abbrev pub event_count : Lists → ℕ
event_count u = length u.elements + length u.attributes * length u.atoms + count_by (λ t. not (is_white t)) u.atoms + 2
