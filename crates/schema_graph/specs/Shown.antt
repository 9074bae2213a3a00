-- Which part of a schema's tree a node of the graph is: Annex C and section Simplification, with names, prefixes and types resolved.
use Rattle.std.specs.Prelude.{◌≡◌, ◌≢◌, ℕ, ◌<◌, List, [], ◌∷◌, length, Option, Some, None, slice_get, Contains, ⊤}
use Rattle.rng_model.specs.Texts.{Text}
use Rattle.grammar_laws.specs.Trees.{Class, TypeName, Pattern, Patterns, no_pattern, more_patterns, Items}
use Rattle.grammar_laws.specs.Trees as full
use Rattle.grammar_laws.specs.Files.{SchemaFile, Full}
use Rattle.simple_form_laws.specs.Prefixes as kinds
use Rattle.simple_form_laws.specs.ClassForms.{OfElement, OfAttribute}
use Rattle.simple_form_laws.specs.ClassForms as classes
use Rattle.simple_form_laws.specs.Parts.{Scope, defined}
use Rattle.simple_form_laws.specs.Forms.{tree, ElementToken, token_of}
use Rattle.text_atoms.specs.Kinds.{kind_of}
use Rattle.name_classes.specs.Views.{class_of}
use Rattle.name_classes.specs.declared.class.NameClass.{NameClass}
use Rattle.text_atoms.specs.declared.kind.Kind.{Kind}
use Rattle.schema_graph.specs.declared.node.Node.{Node}
use Rattle.schema_graph.specs.declared.graph.Graph.{Graph}

-- what a combined definition is of: a name, or the start, in the grammar of these items, with the grammars around it
pub record Key : Type 0 where
  pub scope : Scope
  pub items : Items
  pub name : Option Text

abbrev pub key : Scope → Items → Option Text → Key
key s is name = record { scope = s; items = is; name = name }

-- over nodes, where the combined definitions are of these keys
module _ (fs : List SchemaFile) (nodes : List Node) (keys : List Key) where
  -- the kind of a value: token without a type
  pub data IsKind : Option TypeName → Kind → Type 0 where
    untyped : IsKind None Kind.Token
    typed : {of : TypeName} {k : Kind} → kinds.kind_of fs of ≡ Some (kind_of k) → IsKind (Some of) k

  mutual
    -- the node is the pattern in its scope
    pub data Shows : ℕ → Scope → Pattern → Type 0 where
      element : {i j n : ℕ} {s : Scope} {c : Class} {d : NameClass} {p : Pattern} →
          slice_get nodes i ≡ Some (Node.Element n d j) → classes.class_of fs OfElement c ≡ Some (class_of d) → Shows j s p → Shows i s (full.element c p n)
      attribute : {i j at : ℕ} {s : Scope} {c : Class} {d : NameClass} {p : Pattern} →
          slice_get nodes i ≡ Some (Node.Attribute d j) → classes.class_of fs OfAttribute c ≡ Some (class_of d) → Shows j s p → Shows i s (full.attribute c p at)
      group : {i : ℕ} {js : List ℕ} {s : Scope} {ps : Patterns} → slice_get nodes i ≡ Some (Node.Group js) → ShowEach js s ps → Shows i s (full.group ps)
      choice : {i : ℕ} {js : List ℕ} {s : Scope} {ps : Patterns} → slice_get nodes i ≡ Some (Node.Choice js) → ShowEach js s ps → Shows i s (full.choice ps)
      interleave : {i : ℕ} {js : List ℕ} {s : Scope} {ps : Patterns} → slice_get nodes i ≡ Some (Node.Interleave js) → ShowEach js s ps → Shows i s (full.interleave ps)
      optional : {i j : ℕ} {s : Scope} {p : Pattern} → slice_get nodes i ≡ Some (Node.Optional j) → Shows j s p → Shows i s (full.optional p)
      zero_or_more : {i j : ℕ} {s : Scope} {p : Pattern} → slice_get nodes i ≡ Some (Node.ZeroOrMore j) → Shows j s p → Shows i s (full.zero_or_more p)
      one_or_more : {i j : ℕ} {s : Scope} {p : Pattern} → slice_get nodes i ≡ Some (Node.OneOrMore j) → Shows j s p → Shows i s (full.one_or_more p)
      mixed : {i j : ℕ} {s : Scope} {p : Pattern} → slice_get nodes i ≡ Some (Node.Mixed j) → Shows j s p → Shows i s (full.mixed p)
      ref : {i at d : ℕ} {s : Scope} {is : Items} {name : Text} →
          slice_get nodes i ≡ Some (Node.Reference at d) → slice_get keys d ≡ Some (key s is (Some name)) → Shows i (is ∷ s) (full.ref name at)
      parent : {i at d : ℕ} {s : Scope} {inner is : Items} {name : Text} →
          slice_get nodes i ≡ Some (Node.Reference at d) → slice_get keys d ≡ Some (key s is (Some name)) → Shows i (inner ∷ is ∷ s) (full.parent name at)
      grammar : {i d : ℕ} {s : Scope} {is : Items} →
          slice_get nodes i ≡ Some (Node.Grammar d) → slice_get keys d ≡ Some (key s is None) → Shows i s (full.grammar is)
      empty : {i : ℕ} {s : Scope} → slice_get nodes i ≡ Some Node.Empty → Shows i s full.empty
      any_text : {i : ℕ} {s : Scope} → slice_get nodes i ≡ Some Node.AnyText → Shows i s full.any_text
      not_allowed : {i : ℕ} {s : Scope} → slice_get nodes i ≡ Some Node.NotAllowed → Shows i s full.not_allowed
      value : {i : ℕ} {s : Scope} {of : Option TypeName} {k : Kind} {t : Text} → slice_get nodes i ≡ Some (Node.Value k t) → IsKind of k → Shows i s (full.value of t)
      data_type : {i : ℕ} {s : Scope} {of : TypeName} {k : Kind} →
          slice_get nodes i ≡ Some (Node.DataType k None) → kinds.kind_of fs of ≡ Some (kind_of k) → Shows i s (full.data_type of [])
      data_except : {i j : ℕ} {s : Scope} {of : TypeName} {k : Kind} {p : Pattern} →
          slice_get nodes i ≡ Some (Node.DataType k (Some j)) → kinds.kind_of fs of ≡ Some (kind_of k) → Shows j s p → Shows i s (full.data_except of [] p)

    -- the nodes are the patterns in their scope
    pub data ShowEach : List ℕ → Scope → Patterns → Type 0 where
      none : {s : Scope} → ShowEach [] s no_pattern
      more : {j : ℕ} {js : List ℕ} {s : Scope} {p : Pattern} {ps : Patterns} → Shows j s p → ShowEach js s ps → ShowEach (j ∷ js) s (more_patterns p ps)

  -- the node of each combined definition is what its key stands for
  abbrev pub AreCombined : List ℕ → Type 0
  AreCombined definitions =
      (d : ℕ) (k : Key) → slice_get keys d ≡ Some k → (i : ℕ) × (slice_get definitions d ≡ Some i) × Shows i (k.items ∷ k.scope) (defined k.name k.items)

-- the parts of a node by number, elements' contents apart
abbrev pub parts_of_node : Node → List ℕ
parts_of_node (Node.Attribute d j) = j ∷ []
parts_of_node (Node.Group js) = js
parts_of_node (Node.Choice js) = js
parts_of_node (Node.Interleave js) = js
parts_of_node (Node.Optional j) = j ∷ []
parts_of_node (Node.ZeroOrMore j) = j ∷ []
parts_of_node (Node.OneOrMore j) = j ∷ []
parts_of_node (Node.Mixed j) = j ∷ []
parts_of_node (Node.DataType k (Some j)) = j ∷ []
parts_of_node _ = []

-- the definition that a node leads to
abbrev pub definition_of : Node → Option ℕ
definition_of (Node.Reference at d) = Some d
definition_of (Node.Grammar d) = Some d
definition_of _ = None

-- a group, choice or interleave has members
abbrev pub IsMany : Node → Type 0
IsMany (Node.Group js) = js ≢ []
IsMany (Node.Choice js) = js ≢ []
IsMany (Node.Interleave js) = js ≢ []
IsMany n = ⊤

pub record HasMembers (g : Graph) : Type 0 where
  pub each : (i : ℕ) (n : Node) → slice_get g.nodes.items i ≡ Some n → IsMany n

-- Each number that stands in the graph is one of its own.
pub record IsClosed (g : Graph) : Type 0 where
  pub root : g.root < length g.nodes.items
  pub parts : (i j : ℕ) (n : Node) → slice_get g.nodes.items i ≡ Some n → Contains (parts_of_node n) j → j < length g.nodes.items
  pub contents : (i j n : ℕ) (d : NameClass) → slice_get g.nodes.items i ≡ Some (Node.Element n d j) → (j < length g.nodes.items) × (n < length g.elements.items)
  pub leads : (i d : ℕ) (n : Node) → slice_get g.nodes.items i ≡ Some n → definition_of n ≡ Some d → d < length g.definitions.items
  pub definitions : (d i : ℕ) → slice_get g.definitions.items d ≡ Some i → i < length g.nodes.items
  pub elements : (n i : ℕ) → slice_get g.elements.items n ≡ Some i → i < length g.nodes.items

-- The graph is the tree: its root is the whole, each definition that a reference or a grammar leads to is there, and each token.
pub record IsGraph (f : Full) (g : Graph) : Type 0 where
  pub keys : List Key
  pub each : length keys ≡ length g.definitions.items
  pub combined : AreCombined f.files g.nodes.items keys g.definitions.items
  pub root : Shows f.files g.nodes.items keys g.root [] (tree f)
  pub tokens : (n : ℕ) (t : ElementToken) → token_of f n ≡ Some t →
      (i : ℕ) × (slice_get g.elements.items n ≡ Some i) × Shows f.files g.nodes.items keys i t.scope (full.element t.class t.content n)
  -- no two references stand at one place
  pub apart : (i j at d e : ℕ) → slice_get g.nodes.items i ≡ Some (Node.Reference at d) → slice_get g.nodes.items j ≡ Some (Node.Reference at e) → i ≡ j
  -- no token has two nodes
  pub one : (i j n : ℕ) (d : NameClass) → slice_get g.nodes.items i ≡ Some (Node.Element n d j) → slice_get g.elements.items n ≡ Some i
