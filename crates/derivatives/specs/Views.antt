-- What contracts see of derivatives: the schema with its pool, the universe and the atoms.
use Rattle.std.specs.Prelude.{List}
use Rattle.rng_model.specs.Texts.{Text}
use Rattle.rng_model.specs.Universe.{Lists}
use Rattle.rng_model.specs.States as states
use Rattle.text_atoms.specs.Origins.{texts_of}
use Rattle.text_atoms.specs.declared.origin.Origin.{Origin}
use Rattle.name_universe.specs.Tables.{NameTables}
use Rattle.pattern_intern.specs.Schemas.{Numbered}
use Rattle.pattern_intern.specs.Stored.{Stored, tree_at}
use Rattle.derivatives.specs.declared.states.Place.{Place}
use Rattle.derivatives.specs.declared.states.Place.TheVariants as place
use Rattle.derivatives.specs.declared.states.State.{State}

pub record Machine : Type 0 where
  pub numbered : Numbered
  pub universe : NameTables
  pub atoms : List (Text × Origin)

abbrev pub machine : Numbered → NameTables → List (Text × Origin) → Machine
machine n u atoms = record { numbered = n; universe = u; atoms = atoms }

-- the lists of the universe and the atoms
abbrev pub lists_of : NameTables → List (Text × Origin) → Lists
lists_of u atoms = record { elements = u.elements.names; attributes = u.attributes.names; atoms = texts_of atoms }

abbrev pub lists : Machine → Lists
lists d = lists_of d.universe d.atoms

abbrev pub place_of : Place → states.Place
place_of (place.Tag k) = states.Tag k
place_of place.Fresh = states.Fresh
place_of place.AfterText = states.AfterText
place_of place.AfterElement = states.AfterElement

-- the state with the pattern of its number
abbrev pub state_of : Stored → State → states.State
state_of s x = record { place = place_of x.place; pattern = tree_at s x.pattern.0 }
