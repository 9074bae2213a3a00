-- The states of a schema by number.
use Rattle.std.specs.Prelude.{◌≢◌, ℕ, ◌<◌, List, length}
use Rattle.rng_model.specs.Patterns.{Schema, not_allowed}
use Rattle.rng_model.specs.Universe.{Lists}
use Rattle.rng_model.specs.States.{State}
use Rattle.transitions.specs.Arcs.{state_in}

-- a schema over lists of names and texts, and states that its codes reach
pub record Automaton : Type 0 where
  pub schema : Schema
  pub lists : Lists
  pub states : List State

-- the state of a number
abbrev pub at : Automaton → ℕ → State
at e id = state_in e.states id

-- something is allowed in each of its states
pub record AreAlive (e : Automaton) : Type 0 where
  pub alive : (id : ℕ) → id < length e.states → (at e id).pattern ≢ not_allowed
