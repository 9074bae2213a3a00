-- What can be reached in the graph, and its loops.
use Rattle.std.specs.Prelude.{◌≡◌, ℕ, Bool, true, false, List, [], ◌∷◌, Option, Some, None, slice_get, slice_index_or}
use Rattle.schema_graph.specs.Shown.{parts_of_node}
use Rattle.schema_graph.specs.declared.node.Node.{Node}
use Rattle.schema_graph.specs.declared.graph.Graph.{Graph}

-- the node of a combined definition, alone in a list
abbrev pub definition_at : Graph → ℕ → List ℕ
definition_at g d = one_or_none (slice_get g.definitions.items d)
  where
    one_or_none : Option ℕ → List ℕ
    one_or_none None = []
    one_or_none (Some i) = i ∷ []

-- the nodes that a node leads to: its parts, or its combined definition, and where contents count to an element's content too
abbrev pub steps_of : Graph → Bool → Node → List ℕ
steps_of g true (Node.Element n d j) = j ∷ []
steps_of g false (Node.Element n d j) = []
steps_of g contents (Node.Reference at d) = definition_at g d
steps_of g contents (Node.Grammar d) = definition_at g d
steps_of g contents n = parts_of_node n

abbrev pub node_at : Graph → ℕ → Node
node_at g i = slice_index_or g.nodes.items i Node.Empty

abbrev pub steps_at : Graph → Bool → ℕ → List ℕ
steps_at g contents i = steps_of g contents (node_at g i)

-- the nodes that a node leads to without an element between
abbrev pub leads_at : Graph → ℕ → List ℕ
leads_at g i = steps_at g false i

pub data Step (g : Graph) (contents : Bool) : ℕ → ℕ → Type 0 where
  step : {i j : ℕ} (k : ℕ) → slice_get (steps_at g contents i) k ≡ Some j → Step g contents i j

-- steps, or none, from one node to another
pub data Reaches (g : Graph) (contents : Bool) (i : ℕ) : ℕ → Type 0 where
  here : Reaches g contents i i
  next : {j k : ℕ} → Reaches g contents i j → Step g contents j k → Reaches g contents i k

-- the node leads back to itself
pub record IsCycle (g : Graph) (i : ℕ) : Type 0 where
  pub last : ℕ
  pub there : Reaches g false i last
  pub back : Step g false last i
