-- A search through the graph: nodes that are marked, and those of them whose steps are still to be taken.
use Rattle.std.specs.Prelude.{◌≡◌, ℕ, ◌+◌, ◌<◌, ◌≤◌, ◌⊎◌, Bool, true, not, List, Option, Some, length, slice_get}
use Rattle.std.specs.List.{count_by}
use Rattle.schema_graph.specs.declared.node.Node.{Node}
use Rattle.schema_graph.specs.declared.graph.Graph.{Graph}
use Rattle.pattern_forms.specs.declared.search.Search.{Search}
use Rattle.pattern_forms.specs.Reaching.{steps_at, Step, Reaches, IsCycle}

abbrev pub IsMarked : List Bool → ℕ → Type 0
IsMarked marks i = slice_get marks i ≡ Some true

abbrev pub IsStacked : List ℕ → ℕ → Type 0
IsStacked stack i = (k : ℕ) × (slice_get stack k ≡ Some i)

-- how many aren't marked
abbrev pub unmarked : List Bool → ℕ
unmarked marks = count_by not marks

-- some that are allowed are marked and wait
pub record Grown (A : ℕ → Type 0) (old new : Search) : Type 0 where
  pub each : length new.marks.items ≡ length old.marks.items
  pub kept : (i : ℕ) → IsMarked old.marks.items i → IsMarked new.marks.items i
  pub stacked : (i : ℕ) → IsStacked old.stack.items i → IsStacked new.stack.items i
  pub fresh : (i : ℕ) → IsMarked new.marks.items i → IsMarked old.marks.items i ⊎ (A i × IsStacked new.stack.items i)
  pub only : (i : ℕ) → IsStacked new.stack.items i → IsStacked old.stack.items i ⊎ IsMarked new.marks.items i
  pub weight : unmarked new.marks.items + length new.stack.items ≡ unmarked old.marks.items + length old.stack.items

-- all steps of the node are taken
pub record Spread (g : Graph) (contents : Bool) (node : ℕ) (old new : Search) : Type 0 where
  pub grown : Grown (Step g contents node) old new
  pub taken : (j : ℕ) → Step g contents node j → IsMarked new.marks.items j

-- in the midst of a search from a node
pub record IsSearch (g : Graph) (contents : Bool) (start : ℕ) (s : Search) : Type 0 where
  pub each : length s.marks.items ≡ length g.nodes.items
  pub marked : (i : ℕ) → IsStacked s.stack.items i → IsMarked s.marks.items i
  pub sound : (i : ℕ) → IsMarked s.marks.items i → Reaches g contents start i
  pub closed : (i : ℕ) → IsMarked s.marks.items i → IsStacked s.stack.items i ⊎ ((j : ℕ) → Step g contents i j → IsMarked s.marks.items j)
  pub begin : IsMarked s.marks.items start

-- exactly the nodes that can be reached are marked
pub record AreReachedMarked (g : Graph) (contents : Bool) (start : ℕ) (marks : List Bool) : Type 0 where
  pub each : length marks ≡ length g.nodes.items
  pub sound : (i : ℕ) → IsMarked marks i → Reaches g contents start i
  pub complete : (i : ℕ) → Reaches g contents start i → IsMarked marks i

-- a reference at the place that can be reached leads back to itself
abbrev pub IsLoopAt : Graph → ℕ → Type 0
IsLoopAt g at = (i : ℕ) × (d : ℕ) × Reaches g true g.root i × (slice_get g.nodes.items i ≡ Some (Node.Reference at d)) × IsCycle g i

-- some part that can be reached leads back to itself
pub record HasCycle (g : Graph) : Type 0 where
  pub node : ℕ
  pub reached : Reaches g true g.root node
  pub cycle : IsCycle g node

-- the first k nodes that the node leads to are marked
pub record IsTaking (g : Graph) (contents : Bool) (node k : ℕ) (old new : Search) : Type 0 where
  pub grown : Grown (Step g contents node) old new
  pub taken : (l j : ℕ) → l < k → slice_get (steps_at g contents node) l ≡ Some j → IsMarked new.marks.items j

-- the least place so far, when a node is taken into account
pub record IsLesser (g : Graph) (node : ℕ) (old new : Option ℕ) : Type 0 where
  pub from : (new ≡ old) ⊎ ((at : ℕ) × (d : ℕ) × (new ≡ Some at) × (slice_get g.nodes.items node ≡ Some (Node.Reference at d)) × IsCycle g node)
  pub covers : (at d : ℕ) → slice_get g.nodes.items node ≡ Some (Node.Reference at d) → IsCycle g node → (b : ℕ) × (new ≡ Some b) × (b ≤ at)
  pub kept : (b : ℕ) → old ≡ Some b → (c : ℕ) × (new ≡ Some c) × (c ≤ b)

-- the least place among the first nodes that can be reached
pub record IsLeastSo (g : Graph) (k : ℕ) (least : Option ℕ) : Type 0 where
  pub loops : (at : ℕ) → least ≡ Some at → IsLoopAt g at
  pub covers : (i at d : ℕ) → i < k → Reaches g true g.root i → slice_get g.nodes.items i ≡ Some (Node.Reference at d) → IsCycle g i → (b : ℕ) × (least ≡ Some b) × (b ≤ at)

-- the least place of a loop, if there is one
pub record IsLeast (g : Graph) (least : Option ℕ) : Type 0 where
  pub loops : (at : ℕ) → least ≡ Some at → IsLoopAt g at
  pub covers : (at : ℕ) → IsLoopAt g at → (b : ℕ) × (least ≡ Some b) × (b ≤ at)
