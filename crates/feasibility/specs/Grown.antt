-- What is so of every table.
use Rattle.std.specs.Prelude.{◌≡◌, ℕ, ◌+◌, ◌*◌, ◌-◌, ◌<◌, ◌≤◌, ◌↔◌, ◌⊎◌, List, Option, Some, length, slice_get, Contains}
use Rattle.rng_model.specs.Patterns.{not_allowed}
use Rattle.rng_model.specs.Universe.{Lists}
use Rattle.rng_model.specs.Alike.{Groups, group_count, inked_count}
use Rattle.rng_model.specs.States.{State, Reach, AreDistinct}
use Rattle.table_laws.specs.Premises.{AreListable}
use Rattle.table_laws.specs.Reaching.{start_state}
use Rattle.transitions.specs.declared.arc.Arc.{Arc}
use Rattle.transitions.specs.declared.state_id.StateId.{StateId}
use Rattle.transitions.specs.Arcs.{IsFree, IsRow}
use Rattle.feasibility.specs.declared.explorer.Explorer.{Explorer}
use Rattle.feasibility.specs.Exploring.{IsExploring, at, found, names, schema}

-- the most derivatives that a row takes: one for each group of alike codes with a node
abbrev pub row_total : Lists → Groups → ℕ
row_total u x = group_count x.elements + group_count x.attributes * group_count x.atoms + inked_count 0 u.atoms x.atoms

-- What rows may have taken: the derivatives of a row each, and for each state but the first one, by the code without a node.
abbrev pub spent_on : Lists → Groups → ℕ → ℕ → ℕ
spent_on u x states rows = (states - 1) + row_total u x * rows

-- rows say what follows the states of their numbers
pub record AreRows (e : Explorer) (frees : List (Option StateId)) (rows : List (List Arc)) : Type 0 where
  pub free : (id : ℕ) (next : Option StateId) → slice_get frees id ≡ Some next → IsFree (schema e) (names e) (found e) (at e id) next
  pub row : (id : ℕ) (arcs : List Arc) → slice_get rows id ≡ Some arcs → IsRow (schema e) (names e) (found e) (at e id) arcs

-- the states of the numbers below n are those that k nodes reach
pub record IsLevel (e : Explorer) (k n : ℕ) : Type 0 where
  pub most : n ≤ length (found e)
  pub each : (id : ℕ) → id < length (found e) → (id < n) ↔ Reach (schema e) (names e) k (at e id)

-- the first state is the start, unless the schema allows nothing
abbrev pub IsStarted : Explorer → Type 0
IsStarted e =
    ((length (found e) ≡ 0) × ((schema e).start ≡ not_allowed))
    ⊎ ((0 < length (found e)) × (at e 0 ≡ start_state (schema e)))

-- The states are those that so many nodes reach, each once, in the order of their least counts; what codes without a node lead to is known of each, and
-- what the others lead to of those that fewer nodes reach.
pub record IsGrown (e : Explorer) (free_list : List (Option StateId)) (row_list : List (List Arc)) (level_list : List ℕ) : Type 0 where
  pub listable : AreListable (schema e) (names e)
  pub small : e.limit ≤ 1000000
  pub exploring : IsExploring e
  pub start : IsStarted e
  pub once : AreDistinct (found e)
  pub each : (s : State) → Contains (found e) s ↔ Reach (schema e) (names e) e.level s
  pub all_frees : length free_list ≡ length (found e)
  pub some_rows : length row_list ≤ length (found e)
  pub rows : AreRows e free_list row_list
  pub all_levels : length level_list ≡ e.level + 1
  pub level : (k n : ℕ) → slice_get level_list k ≡ Some n → IsLevel e k n
  pub stepped : (k n : ℕ) → slice_get level_list k ≡ Some n → k < e.level → n ≤ length row_list
