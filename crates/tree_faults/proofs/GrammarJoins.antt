-- Faults of grammars and references, joined.
use Rattle.std.proofs.Common.{◌≡◌, ℕ, Bool, true, false, ◌||◌, List, [], ◌∷◌, ◌++◌, Option, Some, None, refl, ap, sym, ◌∙◌}
use Rattle.std.specs.Prelude.{not, filter}
use Rattle.rng_model.specs.Texts.{Text}
use Rattle.grammar_laws.specs.Trees.{Items}
use Rattle.simple_form_laws.specs.Parts.{Scope, Part, Entry, entries, entries_of, same_key}
use Rattle.simple_form_laws.specs.Faults.{is_empty_list, place_if}
use Rattle.name_resolution.specs.Least.{least}
use Rattle.name_resolution.proofs.LeastPlaces.{lesser_assoc, lesser_none}
use Rattle.tree_faults.specs.declared.entries.Entries.{Entries}
use Rattle.tree_faults.specs.declared.grammars.GrammarFaults.{GrammarFaults}
use Rattle.tree_faults.specs.Entries.{Holds}
use Rattle.tree_faults.specs.Grammars.{Fits, faults_of_items, faults_of_parent, faults_of_ref, grammar_faults, joined, no_faults, own_faults}

or_assoc : (a b c : Bool) → ((a || b) || c) ≡ (a || (b || c))
or_assoc true b c = refl
or_assoc false b c = refl

or_false : (b : Bool) → (b || false) ≡ b
or_false true = refl
or_false false = refl

twice_not : (b : Bool) → not (not b) ≡ b
twice_not true = refl
twice_not false = refl

pub joined_assoc : (a b c : GrammarFaults) → joined (joined a b) c ≡ joined a (joined b c)
joined_assoc a b c = λ i. record {
  lacks_start = or_assoc a.lacks_start b.lacks_start c.lacks_start i;
  undefined = lesser_assoc a.undefined b.undefined c.undefined i;
  outside = lesser_assoc a.outside b.outside c.outside i;
  mixed = lesser_assoc a.mixed b.mixed c.mixed i;
  twice = lesser_assoc a.twice b.twice c.twice i;
}

pub joined_none : (a : GrammarFaults) → joined a no_faults ≡ a
joined_none a = λ i. record {
  lacks_start = or_false a.lacks_start i;
  undefined = lesser_none a.undefined i;
  outside = lesser_none a.outside i;
  mixed = lesser_none a.mixed i;
  twice = lesser_none a.twice i;
}

pub grammars_append : (xs ys : List Part) → grammar_faults (xs ++ ys) ≡ joined (grammar_faults xs) (grammar_faults ys)
grammars_append [] ys = refl
grammars_append (x ∷ xs) ys =
    ap (joined (own_faults x.scope x.pattern)) (grammars_append xs ys) ∙ sym (joined_assoc (own_faults x.scope x.pattern) (grammar_faults xs) (grammar_faults ys))

-- a part that has faults itself alone
pub last : (first o : GrammarFaults) (own : GrammarFaults) → o ≡ own → joined first o ≡ joined first (joined own no_faults)
last first o own e = ap (joined first) (e ∙ sym (joined_none own))

-- a grammar inside the one that is innermost
pub fits_inside : (d : Entries) (inner outer : Option Entries) (s : Scope) (is : Items) → Holds d (entries is) → Fits inner outer s → Fits (Some d) inner (is ∷ s)
fits_inside d inner outer [] is h f = (h, f.0)
fits_inside d inner outer (js ∷ []) is h f = (h, f.0)
fits_inside d inner outer (js ∷ ks ∷ s) is h f = (h, f.0)

pub ref_outside : (outer : Option Entries) (s : Scope) (name : Text) (at : ℕ) → Fits None outer s → record no_faults { undefined = Some at } ≡ faults_of_ref s name at
ref_outside outer [] name at f = refl
ref_outside outer (is ∷ []) name at f = absurd f.0
ref_outside outer (is ∷ js ∷ s) name at f = absurd f.0

defined_there : (d : Entries) (is : Items) (name : Text) (at : ℕ) (b : Bool) → ((es : List Entry) → Holds d es → b ≡ not (is_empty_list (filter (λ e. same_key (Some name) e.name) es))) → Holds d (entries is)
    → least (place_if (not b) at) ≡ least (place_if (is_empty_list (entries_of (Some name) is)) at)
defined_there d is name at b e h = ap (λ c. least (place_if c at)) (ap not (e (entries is) h) ∙ twice_not (is_empty_list (entries_of (Some name) is)))

pub ref_inside : (d : Entries) (outer : Option Entries) (s : Scope) (name : Text) (at : ℕ) (b : Bool) → ((es : List Entry) → Holds d es → b ≡ not (is_empty_list (filter (λ e. same_key (Some name) e.name) es)))
    → Fits (Some d) outer s → record no_faults { undefined = least (place_if (not b) at) } ≡ faults_of_ref s name at
ref_inside d outer [] name at b e f = absurd (let g = f.0 in cc)
ref_inside d outer (is ∷ []) name at b e f = λ i. record no_faults { undefined = defined_there d is name at b e f.0 i }
ref_inside d outer (is ∷ js ∷ s) name at b e f = λ i. record no_faults { undefined = defined_there d is name at b e f.0 i }

pub parent_outside : (inner : Option Entries) (s : Scope) (name : Text) (at : ℕ) → Fits inner None s → record no_faults { outside = Some at } ≡ faults_of_parent s name at
parent_outside inner [] name at f = refl
parent_outside inner (is ∷ []) name at f = refl
parent_outside inner (is ∷ js ∷ s) name at f = absurd f.1

pub parent_inside : (d : Entries) (inner : Option Entries) (s : Scope) (name : Text) (at : ℕ) (b : Bool) → ((es : List Entry) → Holds d es → b ≡ not (is_empty_list (filter (λ e. same_key (Some name) e.name) es)))
    → Fits inner (Some d) s → record no_faults { undefined = least (place_if (not b) at) } ≡ faults_of_parent s name at
parent_inside d inner [] name at b e f = absurd (let g = f.1 in cc)
parent_inside d inner (is ∷ []) name at b e f = absurd (let g = f.1 in cc)
parent_inside d inner (is ∷ js ∷ s) name at b e f = λ i. record no_faults { undefined = defined_there d js name at b e f.1 i }

pub items_known : (d : Entries) (b : Bool) → ((es : List Entry) → Holds d es → b ≡ not (is_empty_list (filter (λ e. same_key None e.name) es)))
    → (is : Items) → Holds d (entries is) → record no_faults { lacks_start = not b; mixed = d.mixed; twice = d.twice } ≡ faults_of_items is
items_known d b e is h = λ i. record no_faults {
  lacks_start = (ap not (e (entries is) h) ∙ twice_not (is_empty_list (entries_of None is))) i;
  mixed = h.mixed i;
  twice = h.twice i;
}
