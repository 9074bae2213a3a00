-- The places of the faults of declarations, over all files.
use Rattle.std.specs.Prelude.{◌≡◌, ℕ, suc, ◌+◌, ◌≤◌, ◌<◌, ◌||◌, List, [], ◌∷◌, length, take, flat_map, All}
use Rattle.std.specs.List.{list_any}
use Rattle.rng_model.specs.Texts.{Text}
use Rattle.grammar_laws.specs.Trees.{Declaration}
use Rattle.grammar_laws.specs.Files.{SchemaFile}
use Rattle.simple_form_laws.specs.Prefixes.{prefixes, libraries}
use Rattle.simple_form_laws.specs.Faults.{in_files, later_places, place_if, bind_one, declaration_place, is_reserved, is_reserved_library}

-- a place for each byte of each file, and one for its end
abbrev pub places_of : List SchemaFile → ℕ
places_of [] = 0
places_of (f ∷ fs) = suc f.length + places_of fs

-- the first k files, and there are more
abbrev pub IsNextFile : List SchemaFile → List SchemaFile → ℕ → Type 0
IsNextFile some all k = (some ≡ take k all) × (k < length all)

-- the file's declarations stand in it
abbrev pub IsWithin : SchemaFile → Type 0
IsWithin f = All (λ d. declaration_place d ≤ f.length) f.declarations

-- the place of a declaration that binds what is reserved
abbrev pub reserved_place : Text → Declaration → List ℕ
reserved_place u d = place_if (list_any is_reserved (prefixes u d) || list_any is_reserved_library (libraries d)) (declaration_place d)

-- the places of those of a file
abbrev pub reserved_places : Text → List Declaration → List ℕ
reserved_places u ds = flat_map (reserved_place u) ds

-- the places of a file's declarations that bind what an earlier one bound
abbrev pub later_bindings : List Declaration → List ℕ
later_bindings ds = later_places bind_one declaration_place [] ds

-- a declaration binds what an earlier one of its file bound
abbrev pub bound_twice : List SchemaFile → List ℕ
bound_twice = in_files (λ g ds. later_bindings ds) 0

-- a declaration binds what is reserved
abbrev pub bound_reserved : List SchemaFile → List ℕ
bound_reserved = in_files (λ g ds. reserved_places g.inherited ds) 0
