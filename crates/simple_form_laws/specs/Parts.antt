-- Grammars, scopes and the combining of definitions: section Simplification (div element, combine attribute, grammar element).
use Rattle.std.specs.Prelude.{ℕ, Bool, true, false, if◌then◌else◌, List, [], ◌∷◌, ◌++◌, Option, Some, None, filter}
use Rattle.std.specs.List.{list_any}
use Rattle.std.specs.Str.{bytes_eq}
use Rattle.rng_model.specs.Texts.{Text}
use Rattle.grammar_laws.specs.Trees.{Pattern, Patterns, no_pattern, more_patterns, Items, no_item, more_items, Item, start, define, div, include, Method, Plain, Choice, Interleave}
use Rattle.grammar_laws.specs.Trees as full

-- the items of the grammars around a place, the innermost first
abbrev pub Scope : Type 0
Scope = List Items

-- a pattern that stands in a tree, with its scope
pub record Part : Type 0 where
  pub scope : Scope
  pub pattern : Pattern

abbrev pub part : Scope → Pattern → Part
part s p = record { scope = s; pattern = p }

-- a start, which has no name, or a definition
pub record Entry : Type 0 where
  pub name : Option Text
  pub method : Method
  pub pattern : Pattern
  pub at : ℕ

-- the starts and definitions of a grammar, through each div, in the order of the tree
abbrev mutual
  pub entries : Items → List Entry
  entries no_item = []
  entries (more_items i rest) = entries_in i ++ entries rest

  pub entries_in : Item → List Entry
  entries_in (start m p at) = record { name = None; method = m; pattern = p; at = at } ∷ []
  entries_in (define name m p at) = record { name = Some name; method = m; pattern = p; at = at } ∷ []
  entries_in (div inner) = entries inner
  entries_in (include literal passed inner at) = []

abbrev pub same_key : Option Text → Option Text → Bool
same_key None None = true
same_key (Some a) (Some b) = bytes_eq a b
same_key _ _ = false

-- the definitions of a name, or the starts
abbrev pub entries_of : Option Text → Items → List Entry
entries_of name items = filter (λ e. same_key name e.name) (entries items)

abbrev pub patterns_of_entries : List Entry → Patterns
patterns_of_entries [] = no_pattern
patterns_of_entries (e ∷ es) = more_patterns e.pattern (patterns_of_entries es)

abbrev pub is_interleave : Method → Bool
is_interleave Interleave = true
is_interleave _ = false

-- The definitions of a name, or the starts, combined: their interleave where one has `&=`, else their choice. One alone is itself.
abbrev pub defined : Option Text → Items → Pattern
defined name items =
    let es = entries_of name items in
    if list_any (λ e. is_interleave e.method) es then full.interleave (patterns_of_entries es) else full.choice (patterns_of_entries es)

-- the pattern and those that stand in it, each with its scope, in the order of the tree
abbrev mutual
  pub parts_of : Scope → Pattern → List Part
  parts_of s (full.element c p at) = part s (full.element c p at) ∷ parts_of s p
  parts_of s (full.attribute c p at) = part s (full.attribute c p at) ∷ parts_of s p
  parts_of s (full.group ps) = part s (full.group ps) ∷ parts_of_list s ps
  parts_of s (full.choice ps) = part s (full.choice ps) ∷ parts_of_list s ps
  parts_of s (full.interleave ps) = part s (full.interleave ps) ∷ parts_of_list s ps
  parts_of s (full.optional p) = part s (full.optional p) ∷ parts_of s p
  parts_of s (full.zero_or_more p) = part s (full.zero_or_more p) ∷ parts_of s p
  parts_of s (full.one_or_more p) = part s (full.one_or_more p) ∷ parts_of s p
  parts_of s (full.list p at) = part s (full.list p at) ∷ parts_of s p
  parts_of s (full.mixed p) = part s (full.mixed p) ∷ parts_of s p
  parts_of s (full.ref name at) = part s (full.ref name at) ∷ []
  parts_of s (full.parent name at) = part s (full.parent name at) ∷ []
  parts_of s full.empty = part s full.empty ∷ []
  parts_of s full.any_text = part s full.any_text ∷ []
  parts_of s full.not_allowed = part s full.not_allowed ∷ []
  parts_of s (full.value k t) = part s (full.value k t) ∷ []
  parts_of s (full.data_type k xs) = part s (full.data_type k xs) ∷ []
  parts_of s (full.data_except k xs p) = part s (full.data_except k xs p) ∷ parts_of s p
  parts_of s (full.external t passed at) = part s (full.external t passed at) ∷ []
  parts_of s (full.grammar is) = part s (full.grammar is) ∷ parts_of_items (is ∷ s) is

  pub parts_of_list : Scope → Patterns → List Part
  parts_of_list s no_pattern = []
  parts_of_list s (more_patterns p ps) = parts_of s p ++ parts_of_list s ps

  pub parts_of_items : Scope → Items → List Part
  parts_of_items s no_item = []
  parts_of_items s (more_items i rest) = parts_of_item s i ++ parts_of_items s rest

  pub parts_of_item : Scope → Item → List Part
  parts_of_item s (start m p at) = parts_of s p
  parts_of_item s (define name m p at) = parts_of s p
  parts_of_item s (div inner) = parts_of_items s inner
  parts_of_item s (include t passed inner at) = []
