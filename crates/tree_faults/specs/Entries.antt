-- The starts and definitions of a grammar, as far as they are read.
use Rattle.std.specs.Prelude.{◌≡◌, ℕ, Bool, true, false, ◌&&◌, List, [], Option}
use Rattle.std.specs.List.{list_any}
use Rattle.rng_model.specs.Texts.{Text}
use Rattle.grammar_laws.specs.Trees.{Method, Plain, Choice, Interleave, Pattern}
use Rattle.simple_form_laws.specs.Parts.{Entry, same_key}
use Rattle.simple_form_laws.specs.Faults.{are_mixed, are_plain, later_places}
use Rattle.name_resolution.specs.Least.{least}
use Rattle.tree_faults.specs.Keys.{has_key}
use Rattle.tree_faults.specs.declared.entries.Entries.{Entries}

abbrev pub same_method : Method → Method → Bool
same_method Plain Plain = true
same_method Choice Choice = true
same_method Interleave Interleave = true
same_method m n = false

-- a start or definition of the name is combined so
abbrev pub has_method : Entries → Method → Option Text → Bool
has_method d Plain k = has_key d.plain k
has_method d Choice k = has_key d.choice k
has_method d Interleave k = has_key d.interleave k

abbrev pub made : Option Text → Method → Pattern → ℕ → Entry
made k m p at = record { name = k; method = m; pattern = p; at = at }

-- those that clash with an earlier one
abbrev pub clashing : (Method → Method → Bool) → List Entry → List ℕ
clashing test es = later_places (λ d e. same_key d.name e.name && test d.method e.method) (λ e. e.at) [] es

-- what is known of the entries that were read
pub record Holds (d : Entries) (es : List Entry) : Type 0 where
  pub keys : (m : Method) (k : Option Text) → has_method d m k ≡ list_any (λ e. same_key k e.name && same_method m e.method) es
  pub mixed : d.mixed ≡ least (clashing are_mixed es)
  pub twice : d.twice ≡ least (clashing are_plain es)
