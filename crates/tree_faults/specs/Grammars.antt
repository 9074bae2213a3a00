-- The faults in grammars and references, with their least places.
use Rattle.std.specs.Prelude.{◌≡◌, ℕ, false, ◌||◌, List, [], ◌∷◌, Option, Some, None}
use Rattle.rng_model.specs.Texts.{Text}
use Rattle.grammar_laws.specs.Trees.{Items, Pattern}
use Rattle.grammar_laws.specs.Trees as full
use Rattle.simple_form_laws.specs.Parts.{Scope, Part, entries, entries_of}
use Rattle.simple_form_laws.specs.Faults.{are_mixed, are_plain, is_empty_list, parent_in, undefined_in}
use Rattle.name_resolution.specs.Least.{least, lesser}
use Rattle.tree_faults.specs.declared.entries.Entries.{Entries}
use Rattle.tree_faults.specs.declared.grammars.GrammarFaults.{GrammarFaults}
use Rattle.tree_faults.specs.Entries.{Holds, clashing}

abbrev pub no_faults : GrammarFaults
no_faults = record { lacks_start = false; undefined = None; outside = None; mixed = None; twice = None }

-- of each fault the lesser place
abbrev pub joined : GrammarFaults → GrammarFaults → GrammarFaults
joined a b = record {
  lacks_start = a.lacks_start || b.lacks_start;
  undefined = lesser a.undefined b.undefined;
  outside = lesser a.outside b.outside;
  mixed = lesser a.mixed b.mixed;
  twice = lesser a.twice b.twice;
}

abbrev pub faults_of_items : Items → GrammarFaults
faults_of_items is = record no_faults {
  lacks_start = is_empty_list (entries_of None is);
  mixed = least (clashing are_mixed (entries is));
  twice = least (clashing are_plain (entries is));
}

abbrev pub faults_of_ref : Scope → Text → ℕ → GrammarFaults
faults_of_ref s name at = record no_faults { undefined = least (undefined_in s (full.ref name at)) }

abbrev pub faults_of_parent : Scope → Text → ℕ → GrammarFaults
faults_of_parent s name at = record no_faults { undefined = least (undefined_in s (full.parent name at)); outside = least (parent_in s (full.parent name at)) }

-- those of the pattern itself, without the patterns in it
abbrev pub own_faults : Scope → Pattern → GrammarFaults
own_faults s (full.ref name at) = faults_of_ref s name at
own_faults s (full.parent name at) = faults_of_parent s name at
own_faults s (full.grammar is) = faults_of_items is
own_faults s p = no_faults

-- those of all parts
abbrev pub grammar_faults : List Part → GrammarFaults
grammar_faults [] = no_faults
grammar_faults (x ∷ xs) = joined (own_faults x.scope x.pattern) (grammar_faults xs)

-- what is known of the items' entries
abbrev pub AreOf : Option Entries → Items → Type 0
AreOf None is = ⊥
AreOf (Some d) is = Holds d (entries is)

-- the entries of the innermost grammar around a place and of the next one outwards, where there are such
abbrev pub Fits : Option Entries → Option Entries → Scope → Type 0
Fits inner outer [] = (inner ≡ None) × (outer ≡ None)
Fits inner outer (is ∷ []) = AreOf inner is × (outer ≡ None)
Fits inner outer (is ∷ js ∷ s) = AreOf inner is × AreOf outer js
