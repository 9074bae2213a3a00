-- What is so while states are found.
use Rattle.std.specs.Prelude.{◌≡◌, ◌≢◌, ℕ, ◌+◌, ◌<◌, ◌≤◌, List, ◌++◌, Option, Some, None, drop, length, map, slice_get}
use Rattle.std.specs.List.{AllByRecursion}
use Rattle.rng_model.specs.Codes.{Code, Attr, IsInRange}
use Rattle.rng_model.specs.Patterns.{Pattern, Schema, not_allowed}
use Rattle.rng_model.specs.Universe.{Lists, AreLiterals}
use Rattle.rng_model.specs.Atoms.{Literals}
use Rattle.rng_model.specs.Alike.{Groups, AreAlikeGroups, AreNumbered, group_count}
use Rattle.rng_model.specs.States.{State, IsAllowed, Reach, ReachesMore, step}
use Rattle.pattern_intern.specs.Stored.{Stored, Extends, count, tree_at}
use Rattle.pattern_intern.specs.declared.id.PatternId.{PatternId}
use Rattle.derivatives.specs.declared.states.State.{State as Key}
use Rattle.derivatives.specs.Views.{lists, state_of}
use Rattle.transitions.specs.declared.state_id.StateId.{StateId}
use Rattle.transitions.specs.declared.arc.Arc.{Arc}
use Rattle.transitions.specs.Arcs.{IsFree, IsRow, IsRowTo, LeadsTo, state_in}
use Rattle.transitions.specs.Automata.{Automaton}
use Rattle.feasibility.specs.declared.explorer.Explorer.{Explorer}
use Rattle.feasibility.specs.declared.fault.Refusal.{Refusal}
use Rattle.feasibility.specs.declared.fault.Refusal.TheVariants.{Full}
use Rattle.feasibility.specs.declared.family.Family.{Family}
use Rattle.feasibility.specs.declared.family.Family.TheVariants.{Attribute}
use Rattle.feasibility.specs.Families.{family_code, family_groups}

abbrev pub pool : Explorer → Stored
pool e = e.derivatives.numbered.pool

abbrev pub schema : Explorer → Schema
schema e = e.derivatives.numbered.schema

abbrev pub names : Explorer → Lists
names e = lists e.derivatives

abbrev pub groups_of : Explorer → Groups
groups_of e = record { elements = e.elements; attributes = e.attributes; atoms = e.atoms }

-- the states that numbers in a pool stand for
abbrev pub states_of : Stored → List Key → List State
states_of s keys = map (state_of s) keys

-- the states found so far
abbrev pub found : Explorer → List State
found e = states_of (pool e) e.states.keys

-- the state of a number
abbrev pub at : Explorer → ℕ → State
at e id = state_in (found e) id

-- the states found so far, as rows and marks speak of them
abbrev pub automaton : Explorer → Automaton
automaton e = record { schema = schema e; lists = names e; states = found e }

-- the patterns of the states stand in the pool
abbrev pub AreWithin : Stored → List Key → Type 0
AreWithin s keys = AllByRecursion (λ k. k.pattern.0 < count s) keys

-- The groups are those of alike names and texts; at most as many states as the limit are found, and each is reached with so many nodes.
pub record IsExploring (e : Explorer) : Type 0 where
  pub literals : Literals
  pub are_literals : AreLiterals (schema e) literals
  pub alike : (l : Literals) → AreLiterals (schema e) l → AreAlikeGroups (schema e) l (names e) (groups_of e)
  pub within : AreWithin (pool e) e.states.keys
  pub reached : (id : ℕ) → id < length (found e) → Reach (schema e) (names e) e.level (at e id)
  pub few : length (found e) ≤ e.limit

-- states were found, and those before keep their numbers
pub record Finds (old new : Explorer) : Type 0 where
  pub schema : schema new ≡ schema old
  pub universe : new.derivatives.universe ≡ old.derivatives.universe
  pub atoms : new.derivatives.atoms ≡ old.derivatives.atoms
  pub groups : groups_of new ≡ groups_of old
  pub limit : new.limit ≡ old.limit
  pub level : new.level ≡ old.level
  pub pool : Extends (pool old) (pool new)
  pub keys : (more : List Key) × (new.states.keys ≡ old.states.keys ++ more)
  pub longer : length (found old) ≤ length (found new)
  pub states : (id : ℕ) → id < length (found old) → at new id ≡ at old id

-- the number has the state
pub record IsFound (e : Explorer) (s : State) (id : ℕ) : Type 0 where
  pub within : id < length (found e)
  pub is : at e id ≡ s

-- where states can't be found for want of room, more than the limit are reached
abbrev pub IsRightly : Explorer → Refusal → Type 0
IsRightly e r = r ≡ Full → ReachesMore (schema e) (names e) e.level e.limit

-- the pattern, unless it is notAllowed
abbrev pub IsPattern : Stored → Pattern → Option PatternId → Type 0
IsPattern s p (Some id) = (id.0 < count s) × (tree_at s id.0 ≡ p) × (p ≢ not_allowed)
IsPattern s p None = p ≡ not_allowed

-- the groups of the positions of a family
abbrev pub groups_in : Explorer → Family → List ℕ
groups_in e family = family_groups (groups_of e) family

-- the pattern after the code of a position
abbrev pub pattern_at : Explorer → ℕ → Family → ℕ → Pattern
pattern_at e id family position = (step (schema e) (names e) (at e id) (family_code family position)).pattern

-- Of the groups of the positions before this one the patterns after their codes are known.
pub record IsKnown (e : Explorer) (id : ℕ) (family : Family) (position : ℕ) (known : List (Option PatternId)) : Type 0 where
  pub numbered : AreNumbered (length known) (drop position (groups_in e family))
  pub few : length known ≤ group_count (groups_in e family)
  pub seen : (p group : ℕ) → p < position → slice_get (groups_in e family) p ≡ Some group → group < length known
  pub each : (p group : ℕ) (r : Option PatternId) → slice_get (groups_in e family) p ≡ Some group → slice_get known group ≡ Some r → IsPattern (pool e) (pattern_at e id family p) r

-- the state of the number is reached with so many nodes less
abbrev pub IsReachedBefore : Explorer → ℕ → ℕ → Type 0
IsReachedBefore e id w = (k : ℕ) × (k + w ≤ e.level) × Reach (schema e) (names e) k (at e id)

-- the code leads from the state to one with the pattern
pub record IsLeading (e : Explorer) (id : ℕ) (c : Code) (pattern : PatternId) : Type 0 where
  pub allowed : IsAllowed (at e id).place c
  pub in_range : IsInRange (names e) c
  pub within : pattern.0 < count (pool e)
  pub is : tree_at (pool e) pattern.0 ≡ (step (schema e) (names e) (at e id) c).pattern
  pub alive : (step (schema e) (names e) (at e id) c).pattern ≢ not_allowed

-- what leads from the state by codes before the position of the family
abbrev pub IsRowAt : Explorer → ℕ → Family → ℕ → List Arc → Type 0
IsRowAt e id family position arcs = IsRowTo (schema e) (names e) (found e) (at e id) (family_code family position) arcs

-- the number has the state after the code
abbrev pub IsAfter : Explorer → ℕ → Code → ℕ → Type 0
IsAfter e id c next = LeadsTo (schema e) (names e) (found e) (at e id) c next

-- where the one code without a node leads
abbrev pub IsFreeAt : Explorer → ℕ → Option StateId → Type 0
IsFreeAt e id next = IsFree (schema e) (names e) (found e) (at e id) next

-- Of the names of each group that the state's place allows, the patterns after the codes of the first groups of texts are known.
abbrev pub AreKnown : Explorer → ℕ → List (List (Option PatternId)) → Type 0
AreKnown e id known = (n group : ℕ) (ks : List (Option PatternId)) → IsAllowed (at e id).place (Attr n 0) → slice_get (groups_of e).attributes n ≡ Some group →
    slice_get known group ≡ Some ks → IsKnown e id (Attribute n) 0 ks

-- what leads from the state by codes with a node
abbrev pub IsRowOf : Explorer → ℕ → List Arc → Type 0
IsRowOf e id arcs = IsRow (schema e) (names e) (found e) (at e id) arcs
