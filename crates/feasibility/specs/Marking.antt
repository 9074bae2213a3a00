-- Which states of a table can finish, and with how many nodes.
use Rattle.std.specs.Prelude.{◌≡◌, ℕ, ◌+◌, ◌<◌, ◌≤◌, Bool, List, Option, Some, length, slice_get}
use Rattle.transitions.specs.declared.arc.Arc.{Arc}
use Rattle.transitions.specs.declared.block.Block.{Block}
use Rattle.transitions.specs.declared.state_id.StateId.{StateId}
use Rattle.transitions.specs.Marked as marked
use Rattle.transitions.specs.Marked.{HasMarks}
use Rattle.feasibility.specs.declared.explorer.Explorer.{Explorer}
use Rattle.feasibility.specs.declared.states.States.{States}
use Rattle.feasibility.specs.Grown.{IsGrown}
use Rattle.feasibility.specs.Exploring.{automaton}

-- the state of the number can finish with so many nodes
abbrev pub Finishes : Explorer → ℕ → ℕ → Type 0
Finishes e rest id = marked.Finishes (automaton e) rest id

-- the state accepts and no node is left, or a code with a node leads to one that can finish with the nodes that are left then
abbrev pub FinishesFirst : Explorer → ℕ → ℕ → Type 0
FinishesFirst e rest id = marked.FinishesFirst (automaton e) rest id

-- the marks of a block say which of its states can finish so that the first code has a node, or none follows
abbrev pub IsBlock : Explorer → Block → Type 0
IsBlock e b = marked.IsBlock (automaton e) b

-- codes without a node lead from the states below the number to such ones
abbrev pub IsClosed : Explorer → List (Option StateId) → ℕ → Type 0
IsClosed e frees n = marked.IsClosed (automaton e) frees n

-- what follows the state of the number by codes with a node, and which of these states can finish with one node less
abbrev pub IsReadyNode : Explorer → List (List Arc) → ℕ → ℕ → List (List Bool) → Type 0
IsReadyNode e rows left id marks = marked.IsReadyNode (automaton e) rows left id marks

-- what is to be known to mark a state
abbrev pub IsReady : Explorer → List (List Arc) → ℕ → ℕ → List (List Bool) → Type 0
IsReady e rows rest id marks = marked.IsReady (automaton e) rows rest id marks

-- it holds of the states below the number
abbrev pub AreReady : Explorer → List (List Arc) → ℕ → ℕ → List (List Bool) → Type 0
AreReady e rows rest n marks = marked.AreReady (automaton e) rows rest n marks

-- the entries of a list say which states can finish with so many nodes
abbrev pub AreMarks : Explorer → ℕ → List Bool → Type 0
AreMarks e rest list = marked.AreMarks (automaton e) rest list

-- each list of marks is right
abbrev pub AreRight : Explorer → List (List Bool) → Type 0
AreRight e marks = marked.AreRight (automaton e) marks

-- Where fewer nodes than the bound are left, the states that the others reach are marked.
pub record AreMarked (e : Explorer) (levels : List ℕ) (bound : ℕ) (marks : List (List Bool)) : Type 0 where
  pub many : bound ≤ length marks
  pub all : (rest k n : ℕ) → rest < bound → k + rest ≡ e.level → slice_get levels k ≡ Some n → HasMarks marks rest n

-- What is so of every table: its states are found, and marked.
pub record IsFilled (e : Explorer) (frees : List (Option StateId)) (rows : List (List Arc)) (levels : List ℕ) (marks : List (List Bool)) : Type 0 where
  pub grown : IsGrown e frees rows levels
  pub right : AreRight e marks
  pub marked : AreMarked e levels (e.level + 1) marks

abbrev pub AreFilled : States → List (List Bool) → Type 0
AreFilled s marks = IsFilled s.explorer s.frees.items s.rows s.levels.items marks
