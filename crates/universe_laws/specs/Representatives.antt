-- What stands for a name, a text and a document in the finite universe: this project's own.
use Rattle.std.specs.Prelude.{[], ◌∷◌, map, ⊤}
use Rattle.std.specs.List.{AllByRecursion}
use Rattle.std.specs.List.Sorted.{IsStrictlySortedBy}
use Rattle.rng_model.specs.Universe.{NameStandsFor, IsOfKind, IsElementClass, IsAttributeClass}
use Rattle.rng_model.specs.Atoms.{Literals, TextStandsFor}
use Rattle.rng_model.specs.Texts.{Text}
use Rattle.rng_model.specs.Kinds.{Kind, Str, Token}
use Rattle.rng_model.specs.Names.{Name, name_cmp}
use Rattle.rng_model.specs.Patterns.{Schema}
use Rattle.rng_model.specs.Hedges.{Attribute, Attributes, Hedge, Skeleton, document}
use Rattle.rng_model.specs.Hedges as hedge
use Rattle.rng_model.specs.Inside.{InSchema}

-- the third is the second with x put in somewhere
pub data Put (x : Attribute) : Attributes → Attributes → Type 0 where
  first : {a : Attributes} → Put x a (x ∷ a)
  later : {y : Attribute} {a b : Attributes} → Put x a b → Put x (y ∷ a) (y ∷ b)

module _ (g : Schema) (l : Literals) where
  -- the second list has what the attributes of the first stand for, in any order
  pub data AttributesStandFor : Attributes → Attributes → Type 0 where
    ends : AttributesStandFor [] []
    puts : {n m : Name} {s t : Text} {a b c : Attributes} →
        NameStandsFor (IsAttributeClass g) n m → TextStandsFor l s t → AttributesStandFor a b → Put (m, t) b c →
        AttributesStandFor ((n, s) ∷ a) c

  -- each name and text of the first hedge is replaced, and attributes are sorted by their new names, which are distinct
  pub data HedgeStandsFor : Hedge → Hedge → Type 0 where
    ends : HedgeStandsFor hedge.none hedge.none
    element : {n m : Name} {a b : Attributes} {k j rest others : Hedge} →
        NameStandsFor (IsElementClass g) n m → AttributesStandFor a b → IsStrictlySortedBy name_cmp (map (λ x. x.0) b) →
        HedgeStandsFor k j → HedgeStandsFor rest others → HedgeStandsFor (hedge.element n a k rest) (hedge.element m b j others)
    text : {s t : Text} {rest others : Hedge} → TextStandsFor l s t → HedgeStandsFor rest others → HedgeStandsFor (hedge.text s rest) (hedge.text t others)

  -- the document d stands for r
  abbrev pub StandsFor : Skeleton → Skeleton → Type 0
  StandsFor d r = HedgeStandsFor (document d) (document r)

abbrev pub IsPlainKind : Kind → Type 0
IsPlainKind Str = ⊤
IsPlainKind Token = ⊤
IsPlainKind _ = ⊥

-- the kinds of the schema are Str and Token
abbrev pub HasPlainKinds : Schema → Type 0
HasPlainKinds g = (k : Kind) → InSchema (IsOfKind k) g → IsPlainKind k

-- no two of the attributes have one representative
abbrev pub NoneMeet : Schema → Attributes → Type 0
NoneMeet g [] = ⊤
NoneMeet g (x ∷ a) =
    AllByRecursion (λ y. (m : Name) → NameStandsFor (IsAttributeClass g) x.0 m → NameStandsFor (IsAttributeClass g) y.0 m → ⊥) a
    × NoneMeet g a

-- the attributes of each element have distinct representatives
abbrev pub HasDistinctRepresentatives : Schema → Hedge → Type 0
HasDistinctRepresentatives g hedge.none = ⊤
HasDistinctRepresentatives g (hedge.element n a k rest) = NoneMeet g a × HasDistinctRepresentatives g k × HasDistinctRepresentatives g rest
HasDistinctRepresentatives g (hedge.text t rest) = HasDistinctRepresentatives g rest

-- each name and text has a representative, as where fresh names and texts are found
pub record HasRepresentatives (g : Schema) (l : Literals) : Type 0 where
  pub elements : (n : Name) → (m : Name) × NameStandsFor (IsElementClass g) n m
  pub attributes : (n : Name) → (m : Name) × NameStandsFor (IsAttributeClass g) n m
  pub texts : (s : Text) → (t : Text) × TextStandsFor l s t
