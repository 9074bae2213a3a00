-- The nodes that are made of a tree, and what each of them may name.
use Rattle.std.specs.Prelude.{◌≡◌, ℕ, ◌<◌, List, [], ◌∷◌, ◌++◌, length, Option, Some, None, slice_get, Contains}
use Rattle.name_classes.specs.declared.class.NameClass.{NameClass}
use Rattle.schema_graph.specs.declared.node.Node.{Node}
use Rattle.schema_graph.specs.Shown.{IsMany, parts_of_node, definition_of}

-- The nodes so far; the node of each combined definition, and of each token in the order of the tree; and how many tokens the tree has.
pub record State : Type 0 where
  pub nodes : List Node
  pub definitions : List ℕ
  pub elements : List ℕ
  pub tokens : ℕ

-- the node names what is there: nodes, definitions, and numbers of tokens; a list has members
pub record IsNodeIn (nodes definitions tokens : ℕ) (x : Node) : Type 0 where
  pub parts : (j : ℕ) → Contains (parts_of_node x) j → j < nodes
  pub content : (n j : ℕ) (c : NameClass) → x ≡ Node.Element n c j → (j < nodes) × (n < tokens)
  pub leads : (d : ℕ) → definition_of x ≡ Some d → d < definitions
  pub many : IsMany x

abbrev pub AreNodesIn : List Node → ℕ → ℕ → Type 0
AreNodesIn nodes definitions tokens = (i : ℕ) (x : Node) → slice_get nodes i ≡ Some x → IsNodeIn (length nodes) definitions tokens x

-- the place of a reference
abbrev pub place_of_node : Node → Option ℕ
place_of_node (Node.Reference at d) = Some at
place_of_node _ = None

-- a list goes on with more
abbrev pub Begins : {X : Type 0} → List X → List X → Type 0
Begins {X} xs ys = (more : List X) × (ys ≡ xs ++ more)

-- numbers were given to combined definitions
pub record Reserved (old new : State) : Type 0 where
  pub nodes : new.nodes ≡ old.nodes
  pub definitions : Begins old.definitions new.definitions
  pub elements : new.elements ≡ old.elements
  pub tokens : new.tokens ≡ old.tokens

-- the next token was begun
pub record IsBegun (old new : State) : Type 0 where
  pub is : new ≡ record old { elements = old.elements ++ 0 ∷ [] }
