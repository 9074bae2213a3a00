-- How the states grow, and what is known of each.
use Rattle.std.specs.Prelude.{◌≡◌, ℕ, ◌+◌, ◌*◌, ◌≤◌, List, [], ◌++◌, Option, Some, length, slice_get, take}
use Rattle.rng_model.specs.Universe.{Lists}
use Rattle.rng_model.specs.Alike.{Groups}
use Rattle.table_laws.specs.Premises.{AreListable}
use Rattle.transitions.specs.declared.arc.Arc.{Arc}
use Rattle.transitions.specs.declared.state_id.StateId.{StateId}
use Rattle.transitions.specs.Arcs.{IsRow}
use Rattle.feasibility.specs.declared.explorer.Explorer.{Explorer}
use Rattle.feasibility.specs.declared.states.Extent.{Extent}
use Rattle.feasibility.specs.declared.states.States.{States}
use Rattle.feasibility.specs.Exploring.{Finds, IsExploring, IsFreeAt, at, found, groups_of, names, pool, schema}
use Rattle.feasibility.specs.Grown.{IsGrown, row_total}

-- the second list begins with the first
abbrev pub Begins : {X : Type 0} → List X → List X → Type 0
Begins {X} front whole = (more : List X) × (whole ≡ front ++ more)

-- of the first states it is known where the code without a node leads
pub record AreFrees (e : Explorer) (frees : List (Option StateId)) : Type 0 where
  pub within : length frees ≤ length (found e)
  pub each : (id : ℕ) (next : Option StateId) → slice_get frees id ≡ Some next → IsFreeAt e id next

-- of the first states it is known what leads on by codes with a node
pub record AreRowsOf (e : Explorer) (rows : List (List Arc)) : Type 0 where
  pub within : length rows ≤ length (found e)
  pub each : (id : ℕ) (arcs : List Arc) → slice_get rows id ≡ Some arcs → IsRow (schema e) (names e) (found e) (at e id) arcs

-- states were found, and of further ones it is known where the code without a node leads
pub record AddsFrees (old new : Explorer) (before after : List (Option StateId)) : Type 0 where
  pub finds : Finds old new
  pub exploring : IsExploring new
  pub frees : AreFrees new after
  pub kept : Begins before after

-- states were found, and of further ones the rows
pub record AddsRows (old new : Explorer) (before after : List (List Arc)) : Type 0 where
  pub finds : Finds old new
  pub exploring : IsExploring new
  pub rows : AreRowsOf new after
  pub kept : Begins before after

-- the same states, as those that so many nodes reach
abbrev pub at_level : ℕ → Explorer → Explorer
at_level n e = record {
  derivatives = e.derivatives;
  elements = e.elements;
  attributes = e.attributes;
  atoms = e.atoms;
  states = e.states;
  limit = e.limit;
  level = n;
}

-- the states with what is known of each, as a table keeps them
pub record Parts : Type 0 where
  pub explorer : Explorer
  pub frees : List (Option StateId)
  pub rows : List (List Arc)
  pub levels : List ℕ

abbrev pub parts : Explorer → List (Option StateId) → List (List Arc) → List ℕ → Parts
parts e frees rows levels = record { explorer = e; frees = frees; rows = rows; levels = levels }

abbrev pub parts_of : States → Parts
parts_of s = parts s.explorer s.frees.items s.rows s.levels.items

-- what is so of every table's states
abbrev pub AreGrown : States → Type 0
AreGrown s = IsGrown s.explorer s.frees.items s.rows s.levels.items

-- the second has grown from the first: all that was known stays
pub record GoesOn (old new : Parts) : Type 0 where
  pub up : old.explorer.level ≤ new.explorer.level
  pub finds : Finds (at_level new.explorer.level old.explorer) new.explorer
  pub none : length (found old.explorer) ≡ 0 → length (found new.explorer) ≡ 0
  pub frees : Begins old.frees new.frees
  pub rows : Begins old.rows new.rows
  pub levels : Begins old.levels new.levels

-- the derivatives that rows may have taken, with one for each state of which it is known where the code without a node leads
abbrev pub cost : Lists → Groups → ℕ → ℕ → ℕ
cost u x frees rows = frees + row_total u x * rows

-- those for what is known, as the groups of a table count them
abbrev pub cost_of : Parts → Parts → ℕ
cost_of p known = cost (names p.explorer) (groups_of p.explorer) (length known.frees) (length known.rows)

-- those for as many states as there may be
abbrev pub full_cost : Parts → ℕ
full_cost p = cost (names p.explorer) (groups_of p.explorer) p.explorer.limit p.explorer.limit

-- so far the states have grown
pub record IsExtent (s : States) (x : Extent) : Type 0 where
  pub states : x.states ≡ length (found s.explorer)
  pub rows : x.rows ≡ length s.rows
  pub level : x.level ≡ s.explorer.level

-- what has grown past the extent is taken back, but for patterns in the pool
pub record IsCutTo (x : Extent) (old new : States) : Type 0 where
  pub schema : schema new.explorer ≡ schema old.explorer
  pub universe : new.explorer.derivatives.universe ≡ old.explorer.derivatives.universe
  pub atoms : new.explorer.derivatives.atoms ≡ old.explorer.derivatives.atoms
  pub groups : groups_of new.explorer ≡ groups_of old.explorer
  pub limit : new.explorer.limit ≡ old.explorer.limit
  pub pool : pool new.explorer ≡ pool old.explorer
  pub level : new.explorer.level ≡ x.level
  pub states : new.explorer.states.keys ≡ take x.states old.explorer.states.keys
  pub frees : new.frees.items ≡ take x.states old.frees.items
  pub rows : new.rows ≡ take x.rows old.rows
  pub levels : new.levels.items ≡ take (x.level + 1) old.levels.items

-- nothing is found yet
pub record IsNew (s : States) : Type 0 where
  pub listable : AreListable (schema s.explorer) (names s.explorer)
  pub exploring : IsExploring s.explorer
  pub room : 1 ≤ s.explorer.limit
  pub small : s.explorer.limit ≤ 1000000
  pub level : s.explorer.level ≡ 0
  pub states : s.explorer.states.keys ≡ []
  pub frees : s.frees.items ≡ []
  pub rows : s.rows ≡ []
  pub levels : s.levels.items ≡ []

-- the start is found, unless the schema allows nothing
pub record IsBegun (old new : States) : Type 0 where
  pub finds : Finds old.explorer new.explorer
  pub one : length (found new.explorer) ≤ 1
  pub rows : new.rows ≡ []
