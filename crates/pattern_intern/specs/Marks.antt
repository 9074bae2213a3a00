-- The search for literals: the numbers that are marked, and what is found below them.
use Rattle.std.specs.Prelude.{◌≡◌, ℕ, ◌<◌, ◌⊎◌, ◌↔◌, Bool, true, false, List, [], ◌∷◌, fold, length, slice_index_or, slice_set, None, Some, Contains}
use Rattle.rng_model.specs.Texts.{Text}
use Rattle.rng_model.specs.Kinds.{Kind}
use Rattle.rng_model.specs.Patterns.{Pattern, Schema, empty, value}
use Rattle.rng_model.specs.Inside.{Within, InSchema, InAttribute}
use Rattle.rng_model.specs.Atoms.{Literals}
use Rattle.rng_model.specs.Universe.{IsLiteral, IsOfKind}
use Rattle.pattern_intern.specs.Stored.{Stored, count, tree_at}
use Rattle.pattern_intern.specs.declared.node.Node.{Node}
use Rattle.pattern_intern.specs.declared.node.Node.TheVariants.{NotAllowed, Empty, AnyText, Ref, Value, DataType, Attribute, OneOrMore, Choice, Group, Interleave, After}

-- the numbers of a node's parts
abbrev pub parts_of : Node → List ℕ
parts_of NotAllowed = []
parts_of Empty = []
parts_of AnyText = []
parts_of (Ref d) = []
parts_of (Value k l) = []
parts_of (DataType k None) = []
parts_of (DataType k (Some e)) = e.0 ∷ []
parts_of (Attribute c a) = a.0 ∷ []
parts_of (OneOrMore a) = a.0 ∷ []
parts_of (Choice a b) = a.0 ∷ b.0 ∷ []
parts_of (Group a b) = a.0 ∷ b.0 ∷ []
parts_of (Interleave a b) = a.0 ∷ b.0 ∷ []
parts_of (After a b) = a.0 ∷ b.0 ∷ []

-- the number of an attribute's content
abbrev pub content_of : Node → List ℕ
content_of (Attribute c a) = a.0 ∷ []
content_of _ = []

abbrev pub with_mark : List Bool → ℕ → List Bool
with_mark marks id = slice_set marks id true

-- the marks with those of the numbers
abbrev pub with_marks : List Bool → List ℕ → List Bool
with_marks marks ids = fold with_mark marks ids

-- K holds of something in a marked pattern of the first n
abbrev pub InMarked : (Pattern → Type 0) → Stored → List Bool → ℕ → Type 0
InMarked K s marks n = (id : ℕ) × (id < n) × (slice_index_or marks id false ≡ true) × Within K (tree_at s id)

abbrev pub IsEmpty : Pattern → Type 0
IsEmpty p = p ≡ empty

abbrev pub IsValue : Kind × Text → Pattern → Type 0
IsValue x p = p ≡ value x.0 x.1

-- What is sought in the schema is found, or stands in a pattern that is reached, of the first n, or, an `empty`, in one that is
-- reached inside an attribute, of the first m.
pub record IsSearch (g : Schema) (s : Stored) (reached inside : List Bool) (l : Literals) (n m : ℕ) : Type 0 where
  pub reached_length : length reached ≡ count s
  pub inside_length : length inside ≡ count s
  pub members : (x : Kind × Text) → (Contains l.members x ⊎ InMarked (IsValue x) s reached n) ↔ IsLiteral g x
  pub kinds : (k : Kind) → (Contains l.kinds k ⊎ InMarked (IsOfKind k) s reached n) ↔ InSchema (IsOfKind k) g
  pub has_empty : ((l.has_empty ≡ true) ⊎ InMarked (InAttribute IsEmpty) s reached n ⊎ InMarked IsEmpty s inside m) ↔ InSchema (InAttribute IsEmpty) g
