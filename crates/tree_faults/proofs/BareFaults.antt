-- No fault sees the places of `element` tokens.
use Rattle.std.proofs.Common.{◌≡◌, ℕ, Bool, true, false, ◌||◌, ◌&&◌, cond, List, [], ◌∷◌, ◌++◌, Option, Some, None, map, refl, ap, sym, ◌∙◌}
use Rattle.std.specs.Prelude.{filter}
use Rattle.std.specs.List.{list_any}
use Rattle.std.proofs.lemmas.List.{map-append}
use Rattle.rng_model.specs.Texts.{Text}
use Rattle.grammar_laws.specs.Files.{SchemaFile}
use Rattle.grammar_laws.specs.Trees.{Pattern, Method, Items, no_item, more_items, Item, start, define, div, include}
use Rattle.grammar_laws.specs.Trees as full
use Rattle.simple_form_laws.specs.Parts.{Scope, Part, Entry, entries, entries_in, entries_of, same_key}
use Rattle.simple_form_laws.specs.Faults.{are_mixed, are_plain, is_empty_list, later_places, place_if}
use Rattle.name_resolution.specs.Least.{least}
use Rattle.tree_faults.specs.Entries.{clashing}
use Rattle.tree_faults.specs.Names.{name_faults}
use Rattle.tree_faults.specs.Names as name
use Rattle.tree_faults.specs.Grammars.{faults_of_items, faults_of_parent, faults_of_ref, grammar_faults, no_faults}
use Rattle.tree_faults.specs.Grammars as grammar
use Rattle.tree_faults.proofs.Bare.{bare, bare_items, bare_item, bare_part}

own_names_bare : (fs : List SchemaFile) (p : Pattern) → name.own_faults fs (bare p) ≡ name.own_faults fs p
own_names_bare fs p = by p
  where
    by : (q : Pattern) → name.own_faults fs (bare q) ≡ name.own_faults fs q
    by (full.value None t) = refl
    by (full.value (Some k) t) = refl
    by q = refl

pub names_bare : (fs : List SchemaFile) (xs : List Part) → name_faults fs (map bare_part xs) ≡ name_faults fs xs
names_bare fs [] = refl
names_bare fs (x ∷ xs) = λ i. name.joined (own_names_bare fs x.pattern i) (names_bare fs xs i)

abbrev bare_entry : Entry → Entry
bare_entry e = record e { pattern = bare e.pattern }

mutual
  entries_bare : (is : Items) → entries (bare_items is) ≡ map bare_entry (entries is)
  entries_bare no_item = refl
  entries_bare (more_items j rest) = (λ i. entries_in_bare j i ++ entries_bare rest i) ∙ sym (map-append bare_entry (entries_in j) (entries rest))

  entries_in_bare : (j : Item) → entries_in (bare_item j) ≡ map bare_entry (entries_in j)
  entries_in_bare (start m p at) = refl
  entries_in_bare (define name m p at) = refl
  entries_in_bare (div inner) = entries_bare inner
  entries_in_bare (include t passed inner at) = refl

empty_bare : (k : Option Text) (es : List Entry) → is_empty_list (filter (λ e. same_key k e.name) (map bare_entry es)) ≡ is_empty_list (filter (λ e. same_key k e.name) es)
empty_bare k [] = refl
empty_bare k (e ∷ es) = go (same_key k e.name) (empty_bare k es)
  where
    go : (b : Bool) → is_empty_list (filter (λ e. same_key k e.name) (map bare_entry es)) ≡ is_empty_list (filter (λ e. same_key k e.name) es)
        → is_empty_list (cond b (bare_entry e ∷ filter (λ e. same_key k e.name) (map bare_entry es)) (filter (λ e. same_key k e.name) (map bare_entry es))) ≡ is_empty_list (cond b (e ∷ filter (λ e. same_key k e.name) es) (filter (λ e. same_key k e.name) es))
    go true h = refl
    go false h = h

defined_bare : (k : Option Text) (is : Items) → is_empty_list (entries_of k (bare_items is)) ≡ is_empty_list (entries_of k is)
defined_bare k is = ap (λ es. is_empty_list (filter (λ e. same_key k e.name) es)) (entries_bare is) ∙ empty_bare k (entries is)

module _ (test : Method → Method → Bool) where
  abbrev clash : Entry → Entry → Bool
  clash d e = same_key d.name e.name && test d.method e.method

  any_bare : (e : Entry) (ds : List Entry) → list_any (λ d. clash d (bare_entry e)) (map bare_entry ds) ≡ list_any (λ d. clash d e) ds
  any_bare e [] = refl
  any_bare e (d ∷ ds) = ap (λ (b : Bool). clash d e || b) (any_bare e ds)

  later_bare : (ds es : List Entry) → later_places clash (λ e. e.at) (map bare_entry ds) (map bare_entry es) ≡ later_places clash (λ e. e.at) ds es
  later_bare ds [] = refl
  later_bare ds (e ∷ es) =
      λ i. place_if (any_bare e ds i) e.at ++ ((ap (λ xs. later_places clash (λ e. e.at) xs (map bare_entry es)) (sym (map-append bare_entry ds (e ∷ []))) ∙ later_bare (ds ++ e ∷ []) es) i)

  clashing_bare : (is : Items) → clashing test (entries (bare_items is)) ≡ clashing test (entries is)
  clashing_bare is = ap (clashing test) (entries_bare is) ∙ later_bare [] (entries is)

items_bare : (is : Items) → faults_of_items (bare_items is) ≡ faults_of_items is
items_bare is = λ i. record no_faults {
  lacks_start = defined_bare None is i;
  mixed = least (clashing_bare are_mixed is i);
  twice = least (clashing_bare are_plain is i);
}

ref_bare : (s : Scope) (n : Text) (at : ℕ) → faults_of_ref (map bare_items s) n at ≡ faults_of_ref s n at
ref_bare [] n at = refl
ref_bare (is ∷ s) n at = λ i. record no_faults { undefined = least (place_if (defined_bare (Some n) is i) at) }

parent_bare : (s : Scope) (n : Text) (at : ℕ) → faults_of_parent (map bare_items s) n at ≡ faults_of_parent s n at
parent_bare [] n at = refl
parent_bare (is ∷ []) n at = refl
parent_bare (is ∷ js ∷ s) n at = λ i. record no_faults { undefined = least (place_if (defined_bare (Some n) js i) at) }

own_grammars_bare : (s : Scope) (p : Pattern) → grammar.own_faults (map bare_items s) (bare p) ≡ grammar.own_faults s p
own_grammars_bare s p = by p
  where
    by : (q : Pattern) → grammar.own_faults (map bare_items s) (bare q) ≡ grammar.own_faults s q
    by (full.ref n at) = ref_bare s n at
    by (full.parent n at) = parent_bare s n at
    by (full.grammar is) = items_bare is
    by q = refl

pub grammars_bare : (xs : List Part) → grammar_faults (map bare_part xs) ≡ grammar_faults xs
grammars_bare [] = refl
grammars_bare (x ∷ xs) = λ i. grammar.joined (own_grammars_bare x.scope x.pattern i) (grammars_bare xs i)
