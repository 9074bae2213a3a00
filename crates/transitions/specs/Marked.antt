-- Which states can finish, and with how many nodes.
use Rattle.std.specs.Prelude.{◌≡◌, ℕ, ◌+◌, ◌<◌, ◌≤◌, ◌↔◌, ◌⊎◌, Bool, true, false, IsTrue, List, Option, Some, length, slice_get}
use Rattle.rng_model.specs.Matching.{nullable}
use Rattle.table_laws.specs.Finishing.{Finish, MarkedNode}
use Rattle.transitions.specs.declared.arc.Arc.{Arc}
use Rattle.transitions.specs.declared.block.Block.{Block}
use Rattle.transitions.specs.declared.state_id.StateId.{StateId}
use Rattle.transitions.specs.Arcs.{IsFree, IsRow}
use Rattle.transitions.specs.Automata.{Automaton, at}

-- the state of the number can finish with so many nodes
abbrev pub Finishes : Automaton → ℕ → ℕ → Type 0
Finishes e rest id = Finish e.schema e.lists rest (at e id)

-- the entries of a list say which states can finish with so many nodes
pub record AreMarks (e : Automaton) (rest : ℕ) (list : List Bool) : Type 0 where
  pub few : length list ≤ length e.states
  pub each : (id : ℕ) (mark : Bool) → slice_get list id ≡ Some mark → IsTrue mark ↔ Finishes e rest id

-- the state accepts and no node is left, or a code with a node leads to one that can finish with the nodes that are left then
abbrev pub FinishesFirst : Automaton → ℕ → ℕ → Type 0
FinishesFirst e rest id =
    ((rest ≡ 0) × IsTrue (nullable (at e id).pattern)) ⊎ MarkedNode e.schema e.lists (Finish e.schema e.lists) rest (at e id)

-- how far the numbers of a block go
abbrev pub end_of : Block → ℕ
end_of b = b.start + length b.marks.items

-- the marks of a block say which of its states can finish so that the first code has a node, or none follows
pub record IsBlock (e : Automaton) (b : Block) : Type 0 where
  pub few : end_of b ≤ length e.states
  pub each : (i : ℕ) (mark : Bool) → slice_get b.marks.items i ≡ Some mark → IsTrue mark ↔ FinishesFirst e b.rest (b.start + i)

-- codes without a node lead from the states below the number to such ones
pub record IsClosed (e : Automaton) (frees : List (Option StateId)) (n : ℕ) : Type 0 where
  pub most : n ≤ length frees
  pub free : (id : ℕ) (next : Option StateId) → slice_get frees id ≡ Some next → IsFree e.schema e.lists e.states (at e id) next
  pub stays : (id : ℕ) (next : StateId) → id < n → slice_get frees id ≡ Some (Some next) → next.0 < n

-- an arc of the row leads to a state with a mark
pub record LeadsOn (row : List Arc) (marks : List Bool) : Type 0 where
  pub place : ℕ
  pub arc : Arc
  pub is : slice_get row place ≡ Some arc
  pub marked : slice_get marks arc.next.0 ≡ Some true

-- the arcs of the row lead to states below the number
pub record IsWithin (row : List Arc) (n : ℕ) : Type 0 where
  pub each : (i : ℕ) (a : Arc) → slice_get row i ≡ Some a → a.next.0 < n

-- what follows the state of the number by codes with a node, and which of these states can finish with one node less
pub record IsReadyNode (e : Automaton) (rows : List (List Arc)) (left : ℕ) (id : ℕ) (marks : List (List Bool)) : Type 0 where
  pub row : List Arc
  pub is_row : slice_get rows id ≡ Some row
  pub leads : IsRow e.schema e.lists e.states (at e id) row
  pub list : List Bool
  pub is_list : slice_get marks left ≡ Some list
  pub right : AreMarks e left list
  pub within : IsWithin row (length list)

-- what is to be known to mark a state
pub record IsReady (e : Automaton) (rows : List (List Arc)) (rest : ℕ) (id : ℕ) (marks : List (List Bool)) : Type 0 where
  pub held : id < length e.states
  pub node : (left : ℕ) → rest ≡ left + 1 → IsReadyNode e rows left id marks

-- it holds of the states below the number
pub record AreReady (e : Automaton) (rows : List (List Arc)) (rest n : ℕ) (marks : List (List Bool)) : Type 0 where
  pub each : (id : ℕ) → id < n → IsReady e rows rest id marks

-- each list of marks is right
pub record AreRight (e : Automaton) (marks : List (List Bool)) : Type 0 where
  pub right : (rest : ℕ) (list : List Bool) → slice_get marks rest ≡ Some list → AreMarks e rest list

-- the list of so many nodes has marks of the states below the number
abbrev pub HasMarks : List (List Bool) → ℕ → ℕ → Type 0
HasMarks marks rest n = (list : List Bool) × (slice_get marks rest ≡ Some list) × (n ≤ length list)

-- the lists of fewer nodes stay
pub record Stay (rest : ℕ) (old new : List (List Bool)) : Type 0 where
  pub longer : length old ≤ length new
  pub same : (k : ℕ) → k < rest → slice_get new k ≡ slice_get old k

-- each list has marks of the states of which it had them
pub record KeepsMarks (old new : List (List Bool)) : Type 0 where
  pub kept : (rest n : ℕ) → HasMarks old rest n → HasMarks new rest n

-- no arc before the place leads to a state with a mark
pub record NoneLeads (row : List Arc) (marks : List Bool) (place : ℕ) : Type 0 where
  pub none : (i : ℕ) (a : Arc) → i < place → slice_get row i ≡ Some a → slice_get marks a.next.0 ≡ Some false
