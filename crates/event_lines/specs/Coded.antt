-- Codes as the events at their positions, and what is counted of bytes: this project's own.
use Rattle.std.specs.Prelude.{◌≡◌, ◌+◌, ◌%◌, ◌^◌, List, [], ◌++◌, flat_map, get_or, length, map, sum, codes}
use Rattle.std.specs.List.{All}
use Rattle.rng_model.specs.Texts.{Text}
use Rattle.rng_model.specs.Names.{Name}
use Rattle.rng_model.specs.Events as event
use Rattle.rng_model.specs.Lines.{event_line}
use Rattle.rng_model.specs.Universe.{Lists}
use Rattle.rng_model.specs.Codes.{Code, Opening, Attr, Body, Chars, Closing, IsInRange, AreCodes}
use Rattle.skeleton.specs.declared.code.Code as coded
use Rattle.skeleton.specs.Views.{code_of}
use Rattle.name_universe.specs.Tables.{NameTables}
use Rattle.text_atoms.specs.Origins.{texts_of}
use Rattle.text_atoms.specs.declared.origin.Origin.{Origin}
use Rattle.event_lines.specs.declared.counted.Measure.{Measure}

-- the lists of a universe and of atoms
abbrev pub lists_of : NameTables → List (Text × Origin) → Lists
lists_of u atoms = record { elements = u.elements.names; attributes = u.attributes.names; atoms = texts_of atoms }

-- each position is in range
abbrev pub AreInRange : Lists → List coded.Code → Type 0
AreInRange u cs = All (λ c. IsInRange u (code_of c)) cs

-- the codes are by position those of the events
abbrev pub AreCodesOf : Lists → List event.Event → List coded.Code → Type 0
AreCodesOf u es cs = AreCodes u es (map code_of cs)

-- one line for each event, and an empty line
abbrev pub events_text : List event.Event → Text
events_text es = flat_map event_line es ++ codes "\n"

abbrev pub no_name : Name
no_name = record { ns = []; local = [] }

-- the event at the positions
abbrev pub event_at : Lists → Code → event.Event
event_at u (Opening i) = event.Opening (get_or u.elements i no_name)
event_at u (Attr j s) = event.Attr (get_or u.attributes j no_name) (get_or u.atoms s [])
event_at u Body = event.Body
event_at u (Chars s) = event.Chars (get_or u.atoms s [])
event_at u Closing = event.Closing

abbrev pub code_line : Lists → coded.Code → Text
code_line u c = event_line (event_at u (code_of c))

-- the lines of codes, and an empty line
abbrev pub lines_of_codes : Lists → List coded.Code → Text
lines_of_codes u cs = flat_map (code_line u) cs ++ codes "\n"

-- what is counted rises by the number of bytes and by their sum
pub record Counts (old now : Measure) (text : Text) : Type 0 where
  pub bytes : now.bytes ≡ (old.bytes + length text) % 2 ^ 64
  pub sum : now.sum ≡ (old.sum + sum text) % 2 ^ 32

-- the number of bytes modulo 2^64, and their sum modulo 2^32
pub record IsMeasure (m : Measure) (text : Text) : Type 0 where
  pub bytes : m.bytes ≡ length text % 2 ^ 64
  pub sum : m.sum ≡ sum text % 2 ^ 32
