-- The names that a grammar defines, and the numbers of their combined definitions.
use Rattle.std.specs.Prelude.{◌≡◌, ℕ, suc, ◌+◌, false, if◌then◌else◌, List, [], ◌∷◌, ◌++◌, Option, Some, None, option_map, position, slice_get, map, ⊤}
use Rattle.std.specs.Str.{bytes_eq}
use Rattle.std.specs.List.{list_any, AllByRecursion}
use Rattle.rng_model.specs.Texts.{Text}
use Rattle.grammar_laws.specs.Trees.{Items}
use Rattle.simple_form_laws.specs.Parts.{Scope, Entry, entries_of}
use Rattle.simple_form_laws.specs.Faults.{is_empty_list}
use Rattle.schema_graph.specs.Shown.{Key, key}

-- The number of the combined start, and the names that have the numbers behind it.
pub record Table : Type 0 where
  pub base : ℕ
  pub names : List Text

-- the name's number
abbrev pub number_of : Table → Text → Option ℕ
number_of t name = option_map (λ i. suc t.base + i) (position (bytes_eq name) t.names)

-- a name that isn't there goes last
abbrev pub with_name : List Text → Text → List Text
with_name names name = if list_any (bytes_eq name) names then names else names ++ name ∷ []

abbrev pub with_entry : List Text → Option Text → List Text
with_entry names None = names
with_entry names (Some name) = with_name names name

-- the names of starts and definitions behind those that are there
abbrev pub with_entries : List Text → List Entry → List Text
with_entries names [] = names
with_entries names (e ∷ es) = with_entries (with_entry names e.name) es

-- the numbers behind a start's
abbrev pub AreNumbered : ℕ → List ℕ → Type 0
AreNumbered base numbers = (i n : ℕ) → slice_get numbers i ≡ Some n → n ≡ suc base + i

-- the names differ
abbrev pub AreDistinctNames : List Text → Type 0
AreDistinctNames names = (i : ℕ) (name : Text) → slice_get names i ≡ Some name → position (bytes_eq name) names ≡ Some i

-- each name that the grammar defines has the number of its combined definition
abbrev pub HasNames : List Key → Table → Scope → Items → Type 0
HasNames keys t s is = (name : Text) → is_empty_list (entries_of (Some name) is) ≡ false →
    (d : ℕ) × (number_of t name ≡ Some d) × (slice_get keys d ≡ Some (key s is (Some name)))

-- the tables of the innermost grammar around a place and of the next one outwards, where there are such
abbrev pub Fits : List Key → Table → Table → Scope → Type 0
Fits keys inner outer [] = ⊤
Fits keys inner outer (is ∷ []) = HasNames keys inner [] is
Fits keys inner outer (is ∷ js ∷ s) = HasNames keys inner (js ∷ s) is × HasNames keys outer s js

-- the keys of a grammar's combined definitions: its start, and its names
abbrev pub keys_of : Scope → Items → List Text → List Key
keys_of s is names = key s is None ∷ map (λ name. key s is (Some name)) names

-- each definition's name is in the table
abbrev pub IsNamed : Table → Option Text → Type 0
IsNamed t None = ⊤
IsNamed t (Some name) = (d : ℕ) × (number_of t name ≡ Some d)

abbrev pub AreNamed : Table → List Entry → Type 0
AreNamed t = AllByRecursion (λ e. IsNamed t e.name)
