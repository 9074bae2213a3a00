-- Whose lines a listing holds for the next document: this project's own.
use Rattle.std.specs.Prelude.{⊤, List}
use Rattle.rng_model.specs.Codes.{Code}
use Rattle.event_lines.specs.Held.{BeginsWith}
use Rattle.lister.specs.Walks.{Stage}

-- where the walk stands at a document, it begins with the codes whose lines are held
abbrev pub IsHeldAt : Stage → List Code → Type 0
IsHeldAt (Stage.at codes states) held = BeginsWith codes held
IsHeldAt _ held = ⊤
