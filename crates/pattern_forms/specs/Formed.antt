-- The simple form of a node, by the equations of section Simplification.
use Rattle.std.specs.Prelude.{◌≡◌, ℕ, List, [], ◌∷◌, Some, None, slice_get, fold}
use Rattle.rng_model.specs.Texts.{Text}
use Rattle.rng_model.specs.Patterns as simple
use Rattle.rng_model.specs.Constructors.{or_empty, interleave_of, one_or_more_of, attribute_of, data_of}
use Rattle.text_atoms.specs.Kinds.{kind_of}
use Rattle.text_atoms.specs.declared.kind.Kind.{Kind}
use Rattle.name_classes.specs.Views.{class_of}
use Rattle.name_classes.specs.declared.class.NameClass.{NameClass}
use Rattle.simple_form_laws.specs.Meaning.{Connective, Group, Choice, Interleave, connect}
use Rattle.schema_graph.specs.declared.node.Node.{Node}
use Rattle.schema_graph.specs.declared.graph.Graph.{Graph}

-- patterns nested to the left behind the first
abbrev pub joined : Connective → simple.Pattern → List simple.Pattern → simple.Pattern
joined c b ps = fold (connect c) b ps

mutual
  -- the node has this simple form
  pub data Formed (g : Graph) : ℕ → simple.Pattern → Type 0 where
    element : {i j n : ℕ} {d : NameClass} → slice_get g.nodes.items i ≡ Some (Node.Element n d j) → Formed g i (simple.ref n)
    attribute : {i j : ℕ} {d : NameClass} {q r : simple.Pattern} →
        slice_get g.nodes.items i ≡ Some (Node.Attribute d j) → Formed g j q → r ≡ attribute_of (class_of d) q → Formed g i r
    group : {i j : ℕ} {js : List ℕ} {q r : simple.Pattern} {qs : List simple.Pattern} →
        slice_get g.nodes.items i ≡ Some (Node.Group (j ∷ js)) → AreFormed g (j ∷ js) (q ∷ qs) → r ≡ joined Group q qs → Formed g i r
    choice : {i j : ℕ} {js : List ℕ} {q r : simple.Pattern} {qs : List simple.Pattern} →
        slice_get g.nodes.items i ≡ Some (Node.Choice (j ∷ js)) → AreFormed g (j ∷ js) (q ∷ qs) → r ≡ joined Choice q qs → Formed g i r
    interleave : {i j : ℕ} {js : List ℕ} {q r : simple.Pattern} {qs : List simple.Pattern} →
        slice_get g.nodes.items i ≡ Some (Node.Interleave (j ∷ js)) → AreFormed g (j ∷ js) (q ∷ qs) → r ≡ joined Interleave q qs → Formed g i r
    optional : {i j : ℕ} {q r : simple.Pattern} → slice_get g.nodes.items i ≡ Some (Node.Optional j) → Formed g j q → r ≡ or_empty q → Formed g i r
    zero_or_more : {i j : ℕ} {q r : simple.Pattern} →
        slice_get g.nodes.items i ≡ Some (Node.ZeroOrMore j) → Formed g j q → r ≡ or_empty (one_or_more_of q) → Formed g i r
    one_or_more : {i j : ℕ} {q r : simple.Pattern} →
        slice_get g.nodes.items i ≡ Some (Node.OneOrMore j) → Formed g j q → r ≡ one_or_more_of q → Formed g i r
    mixed : {i j : ℕ} {q r : simple.Pattern} →
        slice_get g.nodes.items i ≡ Some (Node.Mixed j) → Formed g j q → r ≡ interleave_of q simple.text → Formed g i r
    reference : {i j at d : ℕ} {r : simple.Pattern} →
        slice_get g.nodes.items i ≡ Some (Node.Reference at d) → slice_get g.definitions.items d ≡ Some j → Formed g j r → Formed g i r
    grammar : {i j d : ℕ} {r : simple.Pattern} →
        slice_get g.nodes.items i ≡ Some (Node.Grammar d) → slice_get g.definitions.items d ≡ Some j → Formed g j r → Formed g i r
    empty : {i : ℕ} → slice_get g.nodes.items i ≡ Some Node.Empty → Formed g i simple.empty
    any_text : {i : ℕ} → slice_get g.nodes.items i ≡ Some Node.AnyText → Formed g i simple.text
    not_allowed : {i : ℕ} → slice_get g.nodes.items i ≡ Some Node.NotAllowed → Formed g i simple.not_allowed
    value : {i : ℕ} {k : Kind} {t : Text} → slice_get g.nodes.items i ≡ Some (Node.Value k t) → Formed g i (simple.value (kind_of k) t)
    data_type : {i : ℕ} {k : Kind} → slice_get g.nodes.items i ≡ Some (Node.DataType k None) → Formed g i (simple.data_type (kind_of k))
    data_except : {i j : ℕ} {k : Kind} {q r : simple.Pattern} →
        slice_get g.nodes.items i ≡ Some (Node.DataType k (Some j)) → Formed g j q → r ≡ data_of (kind_of k) q → Formed g i r

  -- the nodes have these simple forms
  pub data AreFormed (g : Graph) : List ℕ → List simple.Pattern → Type 0 where
    none : AreFormed g [] []
    more : {j : ℕ} {js : List ℕ} {q : simple.Pattern} {qs : List simple.Pattern} → Formed g j q → AreFormed g js qs → AreFormed g (j ∷ js) (q ∷ qs)
