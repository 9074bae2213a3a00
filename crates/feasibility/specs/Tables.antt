-- What contracts see of a table of states: this project's own.
use Rattle.std.specs.Prelude.{◌≡◌, ℕ, ◌*◌, ◌<◌, ◌≤◌, ◌↔◌, List, length, slice_index_or, Contains}
use Rattle.rng_model.specs.Texts.{Text}
use Rattle.rng_model.specs.Patterns.{Schema, not_allowed}
use Rattle.rng_model.specs.Universe.{Lists, AreLiterals}
use Rattle.rng_model.specs.Atoms.{Literals}
use Rattle.rng_model.specs.States.{State, Fresh, Reach, AreDistinct}
use Rattle.rng_model.specs.Alike.{Groups, AreAlikeGroups, alike_count}
use Rattle.table_laws.specs.Premises.{AreListable}
use Rattle.table_laws.specs.Reaching.{state_at}
use Rattle.text_atoms.specs.declared.origin.Origin.{Origin}
use Rattle.text_atoms.specs.Origins.{texts_of}
use Rattle.name_universe.specs.Tables.{NameTables}

-- A schema with its names and texts, the groups of alike ones, the limit of states, the size to which the table has grown, the states
-- by number, and the derivatives that were spent on them.
pub record Table : Type 0 where
  pub schema : Schema
  pub universe : NameTables
  pub atoms : List (Text × Origin)
  pub groups : Groups
  pub limit : ℕ
  pub grown : ℕ
  pub states : List State
  pub spent : ℕ

-- the lists of its names and texts
abbrev pub lists : Table → Lists
lists t = record { elements = t.universe.elements.names; attributes = t.universe.attributes.names; atoms = texts_of t.atoms }

-- the state of a number
abbrev pub state_of : Table → ℕ → State
state_of t id = slice_index_or t.states id (state_at Fresh not_allowed)

-- the most derivatives that a state takes: one for each group of alike codes
abbrev pub group_total : Table → ℕ
group_total t = alike_count (lists t) t.groups

-- What holds of every table: its states are those that so many nodes reach, each once, and at most as many as the limit.
pub record IsTable (t : Table) : Type 0 where
  pub listable : AreListable t.schema (lists t)
  pub alike : (l : Literals) → AreLiterals t.schema l → AreAlikeGroups t.schema l (lists t) t.groups
  pub each : (s : State) → Contains t.states s ↔ Reach t.schema (lists t) t.grown s
  pub once : AreDistinct t.states
  pub few : length t.states ≤ t.limit
  pub counted : t.spent ≤ group_total t * length t.states

-- it is the table of the same schema, names, texts and limit, in which each number has its state
pub record Keeps (old new : Table) : Type 0 where
  pub schema : new.schema ≡ old.schema
  pub universe : new.universe ≡ old.universe
  pub atoms : new.atoms ≡ old.atoms
  pub groups : new.groups ≡ old.groups
  pub limit : new.limit ≡ old.limit
  pub grown : old.grown ≤ new.grown
  pub longer : length old.states ≤ length new.states
  pub states : (id : ℕ) → id < length old.states → state_of new id ≡ state_of old id

-- the lists of names and atoms that a table is made of
abbrev pub lists_of : NameTables → List (Text × Origin) → Lists
lists_of u atoms = record { elements = u.elements.names; attributes = u.attributes.names; atoms = texts_of atoms }
