-- What taking a key into an index set does.
use Rattle.std.specs.Prelude.{◌≡◌, ℕ, List, [], ◌∷◌, ◌++◌, length, slice_get, Some, ◌⊎◌}
use Rattle.pattern_intern.specs.declared.facts.Facts.{Facts}
use Rattle.rng_model.specs.Texts.{Text}
use Rattle.text_atoms.specs.declared.kind.Kind.{Kind}
use Rattle.name_classes.specs.declared.class.NameClass.{NameClass}
use Rattle.name_classes.specs.Views.{class_of}
use Rattle.pattern_intern.specs.declared.id.PatternId.{PatternId}
use Rattle.pattern_intern.specs.declared.node.Node.{Node}
use Rattle.pattern_intern.specs.declared.node.Node.TheVariants.{Value, Attribute}

-- A key that stands for what x does was there.
pub record WasThere {X V : Type 0} (value : X → V) (old : List X) (x : X) (id : ℕ) (new : List X) : Type 0 where
  pub key : X
  pub there : slice_get old id ≡ Some key
  pub same : value key ≡ value x
  pub keys : new ≡ old

-- None was there, and x is the last now.
pub record IsLast {X V : Type 0} (value : X → V) (old : List X) (x : X) (id : ℕ) (new : List X) : Type 0 where
  pub absent : (k : ℕ) (y : X) → slice_get old k ≡ Some y → value y ≡ value x → ⊥
  pub last : id ≡ length old
  pub keys : new ≡ old ++ x ∷ []

abbrev pub IsTaken : {X V : Type 0} → (X → V) → List X → X → ℕ → List X → Type 0
IsTaken value old x id new = WasThere value old x id new ⊎ IsLast value old x id new

-- the node was there
pub record HadNode (old : List Node) (was : List Facts) (node : Node) (id : ℕ) (new : List Node) (now : List Facts) : Type 0 where
  pub there : slice_get old id ≡ Some node
  pub nodes : new ≡ old
  pub facts : now ≡ was

-- the node wasn't there, and is the last now
pub record IsNewNode (old : List Node) (was : List Facts) (node : Node) (fact : Facts) (id : ℕ) (new : List Node) (now : List Facts) : Type 0 where
  pub absent : (k : ℕ) → slice_get old k ≡ Some node → ⊥
  pub last : id ≡ length old
  pub nodes : new ≡ old ++ node ∷ []
  pub facts : now ≡ was ++ fact ∷ []

abbrev pub IsInterned : List Node → List Facts → Node → Facts → ℕ → List Node → List Facts → Type 0
IsInterned old was node fact id new now = HadNode old was node id new now ⊎ IsNewNode old was node fact id new now

-- the class was taken in, and then the attribute with it
pub record IsAttributeTaken (cs : List NameClass) (old : List Node) (was : List Facts) (class : NameClass) (content : PatternId) (fact : Facts) (id : ℕ) (ds : List NameClass) (new : List Node) (now : List Facts) : Type 0 where
  pub number : ℕ
  pub taken : IsTaken class_of cs class number ds
  pub node : IsInterned old was (Attribute (record { 0 = number }) content) fact id new now

-- the literal was taken in, and then the value with it
pub record IsValueTaken (ls : List Text) (old : List Node) (was : List Facts) (kind : Kind) (literal : Text) (fact : Facts) (id : ℕ) (ms : List Text) (new : List Node) (now : List Facts) : Type 0 where
  pub number : ℕ
  pub taken : IsTaken (λ t. t) ls literal number ms
  pub node : IsInterned old was (Value kind (record { 0 = number })) fact id new now
