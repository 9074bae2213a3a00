-- Events by positions in the lists of names and atoms: this project's own.
use Rattle.std.specs.Prelude.{List}
use Rattle.rng_model.specs.Texts.{Text}
use Rattle.rng_model.specs.Events.{Event}
use Rattle.rng_model.specs.Universe.{Lists}
use Rattle.rng_model.specs.Codes.{Code, IsCode}
use Rattle.text_atoms.specs.declared.origin.Origin.{Origin}
use Rattle.text_atoms.specs.Origins.{texts_of}
use Rattle.name_universe.specs.Tables.{NameTables}

-- the lists of a universe and of atoms
abbrev pub lists_of : NameTables → List (Text × Origin) → Lists
lists_of u atoms = record { elements = u.elements.names; attributes = u.attributes.names; atoms = texts_of atoms }

-- no code stands for the event
abbrev pub HasNoCode : Lists → Event → Type 0
HasNoCode u e = (c : Code) → IsCode u e c → ⊥
