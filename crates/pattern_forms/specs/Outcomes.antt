-- What holds of the forms of a graph.
use Rattle.std.specs.Prelude.{◌≡◌, ℕ, ◌<◌, ◌≤◌, List, Option, Some, slice_get, Contains, ⊤}
use Rattle.rng_model.specs.Patterns.{HasNoAfter}
use Rattle.grammar_laws.specs.Trees.{Pattern}
use Rattle.grammar_laws.specs.Files.{Full}
use Rattle.simple_form_laws.specs.Parts.{Scope}
use Rattle.simple_form_laws.specs.Meaning.{Means}
use Rattle.simple_form_laws.specs.Faults.{IsLoop}
use Rattle.name_classes.specs.declared.class.NameClass.{NameClass}
use Rattle.schema_graph.specs.Shown.{Shows, IsGraph, parts_of_node, definition_of}
use Rattle.schema_graph.specs.declared.node.Node.{Node}
use Rattle.schema_graph.specs.declared.graph.Graph.{Graph}
use Rattle.pattern_intern.specs.Stored.{Stored, count, tree_at}
use Rattle.pattern_intern.specs.declared.id.PatternId.{PatternId}
use Rattle.pattern_forms.specs.declared.fault.FormsFault.{FormsFault}

-- the form of a node
abbrev pub HasForm : List (Option PatternId) → ℕ → PatternId → Type 0
HasForm forms i id = slice_get forms i ≡ Some (Some id)

abbrev pub IsMade : List (Option PatternId) → ℕ → Type 0
IsMade forms i = (id : PatternId) × HasForm forms i id

-- Each form is one of the pool's, which is the simple form of all that its node shows, and no After stands in it.
pub record AreForms (g : Graph) (pool : Stored) (forms : List (Option PatternId)) : Type 0 where
  pub within : (i : ℕ) (id : PatternId) → HasForm forms i id → id.0 < count pool
  pub means : (f : Full) (h : IsGraph f g) (i : ℕ) (id : PatternId) → HasForm forms i id →
      (s : Scope) (p : Pattern) → Shows f.files g.nodes.items h.keys i s p → Means f.files s p (tree_at pool id.0)
  pub no_after : (i : ℕ) (id : PatternId) → HasForm forms i id → HasNoAfter (tree_at pool id.0)

-- What can be reached from the root has a form: parts, definitions and contents of elements.
pub record AreReached (g : Graph) (forms : List (Option PatternId)) : Type 0 where
  pub root : IsMade forms g.root
  pub parts : (i j : ℕ) (n : Node) → IsMade forms i → slice_get g.nodes.items i ≡ Some n → Contains (parts_of_node n) j → IsMade forms j
  pub definitions : (i d j : ℕ) (n : Node) → IsMade forms i → slice_get g.nodes.items i ≡ Some n → definition_of n ≡ Some d →
      slice_get g.definitions.items d ≡ Some j → IsMade forms j
  pub contents : (i j n : ℕ) (d : NameClass) → IsMade forms i → slice_get g.nodes.items i ≡ Some (Node.Element n d j) → IsMade forms j

-- No reference that can be reached leads back to itself.
pub record HasNoLoop (g : Graph) : Type 0 where
  pub sound : (f : Full) → IsGraph f g → (at : ℕ) → IsLoop f at → ⊥

-- A reference at the place leads back to itself, and none at a lesser place.
pub record IsLeastLoop (g : Graph) (at : ℕ) : Type 0 where
  pub loops : (f : Full) → IsGraph f g → IsLoop f at
  pub least : (f : Full) → IsGraph f g → (b : ℕ) → IsLoop f b → at ≤ b

-- each fault has its cause
abbrev pub IsCause : Graph → FormsFault → Type 0
IsCause g (FormsFault.Loop at) = IsLeastLoop g at
IsCause g FormsFault.OutOfMemory = ⊤
