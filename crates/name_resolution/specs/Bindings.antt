-- What one declaration binds, as src/ has it.
use Rattle.std.specs.Prelude.{Bool, ◌&&◌, ◌||◌, List, [], ◌∷◌, Option, Some, None, is_some}
use Rattle.std.specs.List.{list_any}
use Rattle.std.specs.Borrow.{Bor}
use Rattle.rng_model.specs.Texts.{Text}
use Rattle.grammar_laws.specs.Trees.{Declaration}
use Rattle.simple_form_laws.specs.Prefixes.{Table, defaults, libraries, look_up, prefixes}
use Rattle.simple_form_laws.specs.Faults.{is_some_default}

-- a prefix and its URI, or none
abbrev pub as_table : Option (Bor Text × Bor Text) → Table
as_table None = []
as_table (Some b) = (b.0.now, b.1.now) ∷ []

-- a namespace, or none
abbrev pub as_list : Option (Bor Text) → List Text
as_list None = []
as_list (Some u) = u.now ∷ []

-- the declaration binds a prefix of one of the tables, or the default where there is one
abbrev pub binds_again : Table → Table → Bool → Text → Declaration → Bool
binds_again namespaces types has_default u d =
    list_any (λ b. is_some (look_up namespaces (b.0))) (prefixes u d)
    || list_any (λ b. is_some (look_up types (b.0))) (libraries d)
    || (is_some_default (defaults u d) && has_default)
