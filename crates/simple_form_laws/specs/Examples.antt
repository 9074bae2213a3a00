-- Worked examples of full trees, with the text of each.
use Rattle.std.specs.Prelude.{ℕ, ◌+◌, List, [], ◌∷◌, codes, Some}
use Rattle.rng_model.specs.Texts.{Text}
use Rattle.rng_model.specs.Kinds.{Positive}
use Rattle.rng_model.specs.Classes.{one}
use Rattle.rng_model.specs.Patterns as simple
use Rattle.rng_model.specs.Patterns.{Schema, Definition}
use Rattle.grammar_laws.specs.Trees.{Class, Pattern, Patterns, no_pattern, more_patterns, Item, Items, no_item, more_items, Method, Plain, Choice, Interleave, Declaration, Body}
use Rattle.grammar_laws.specs.Files.{Full}
use Rattle.grammar_laws.specs.Trees as full
use Rattle.simple_form_laws.specs.ClassForms.{named}

-- a tree of one file
abbrev pub one_file : ℕ → List Declaration → Body → Full
one_file n ds b = record { files = record { name = []; length = n; inherited = []; declarations = ds } ∷ []; body = b }

-- an element without content, its name behind `element` and a space
abbrev pub element_at : Text → ℕ → Pattern
element_at name at = full.element (full.plain name (at + 8)) full.empty at

-- element p:a { empty }
abbrev pub unbound : Full
unbound = one_file 21 [] (full.pattern (full.element (full.prefixed (codes "p") (codes "a") 8) full.empty 0))

-- namespace p = "u" namespace p = "v" element a { empty }
abbrev pub twice : Full
twice = one_file 55 (full.namespace_prefix (codes "p") (full.literal (codes "u")) 0 ∷ full.namespace_prefix (codes "p") (full.literal (codes "v")) 18 ∷ []) (full.pattern (element_at (codes "a") 36))

-- namespace xml = "u" element a { empty }
abbrev pub reserved : Full
reserved = one_file 39 (full.namespace_prefix (codes "xml") (full.literal (codes "u")) 0 ∷ []) (full.pattern (element_at (codes "a") 20))

-- element * - * { empty }
abbrev pub constrained : Full
constrained = one_file 23 [] (full.pattern (full.element (full.any_except (full.any 12) 8) full.empty 0))

-- element a { attribute xmlns { text } }
abbrev pub xmlns_attribute : Full
xmlns_attribute = one_file 38 [] (full.pattern (full.element (full.plain (codes "a") 8) (full.attribute (full.plain (codes "xmlns") 22) full.any_text 12) 0))

-- grammar { a = empty }
abbrev pub without_start : Full
without_start = one_file 21 [] (full.pattern (full.grammar (full.items_of (full.define (codes "a") Plain full.empty 10 ∷ []))))

-- start = a
abbrev pub undefined : Full
undefined = one_file 9 [] (full.items (full.items_of (full.start Plain (full.ref (codes "a") 8) 0 ∷ [])))

-- start = parent a
abbrev pub parent_outside : Full
parent_outside = one_file 16 [] (full.items (full.items_of (full.start Plain (full.parent (codes "a") 8) 0 ∷ [])))

-- start |= element a { empty } start &= element b { empty }
abbrev pub mixed_methods : Full
mixed_methods = one_file 57 [] (full.items (full.items_of (full.start Choice (element_at (codes "a") 9) 0 ∷ full.start Interleave (element_at (codes "b") 38) 29 ∷ [])))

-- start = element a { empty } start = element b { empty }
abbrev pub twice_defined : Full
twice_defined = one_file 55 [] (full.items (full.items_of (full.start Plain (element_at (codes "a") 8) 0 ∷ full.start Plain (element_at (codes "b") 36) 28 ∷ [])))

-- start = a a = (a, element b { empty })
abbrev pub looping : Full
looping = one_file 38 [] (full.items (full.items_of (full.start Plain (full.ref (codes "a") 8) 0 ∷ full.define (codes "a") Plain (full.group (full.patterns_of (full.ref (codes "a") 15 ∷ element_at (codes "b") 18 ∷ []))) 10 ∷ [])))

-- start = a a = b b = a | element c { empty }
abbrev pub looping_by_two : Full
looping_by_two = one_file 43 [] (full.items (full.items_of (
    full.start Plain (full.ref (codes "a") 8) 0
    ∷ full.define (codes "a") Plain (full.ref (codes "b") 14) 10
    ∷ full.define (codes "b") Plain (full.choice (full.patterns_of (full.ref (codes "a") 20 ∷ element_at (codes "c") 24 ∷ []))) 16
    ∷ [])))

-- element a { xsd:positiveInteger "0" }
abbrev pub zero_value : Full
zero_value = one_file 37 [] (full.pattern (full.element (full.plain (codes "a") 8) (full.value (Some (full.prefixed_type (codes "xsd") (codes "positiveInteger") 12)) (codes "0")) 0))

-- element a { mixed { element b { empty }* } }
abbrev pub mixed_content : Full
mixed_content = one_file 44 [] (full.pattern (full.element (full.plain (codes "a") 8) (full.mixed (full.zero_or_more (element_at (codes "b") 20))) 0))

-- start = x start |= element a { empty } x = element b { x? }
abbrev pub combined : Full
combined = one_file 59 [] (full.items (full.items_of (
    full.start Plain (full.ref (codes "x") 8) 0
    ∷ full.start Choice (element_at (codes "a") 19) 10
    ∷ full.define (codes "x") Plain (full.element (full.plain (codes "b") 51) (full.optional (full.ref (codes "x") 55)) 43) 39
    ∷ [])))

-- start = element a { grammar { start = parent x } } x = element b { empty }
abbrev pub with_parent : Full
with_parent = one_file 74 [] (full.items (full.items_of (
    full.start Plain (full.element (full.plain (codes "a") 16) (full.grammar (full.items_of (full.start Plain (full.parent (codes "x") 38) 30 ∷ []))) 8) 0
    ∷ full.define (codes "x") Plain (element_at (codes "b") 55) 51
    ∷ [])))

abbrev pub defined_as : Text → simple.Pattern → Definition
defined_as name p = record { class = one (named [] name); content = p }

-- that of zero_value, but for the fault
abbrev pub zero_schema : Schema
zero_schema = record { start = simple.ref 0; elements = defined_as (codes "a") (simple.value Positive (codes "0")) ∷ [] }

-- the simple form of mixed_content
abbrev pub mixed_schema : Schema
mixed_schema = record {
  start = simple.ref 0;
  elements =
      defined_as (codes "a") (simple.interleave (simple.choice simple.empty (simple.one_or_more (simple.ref 1))) simple.text)
      ∷ defined_as (codes "b") simple.empty
      ∷ [];
}

-- that of combined: `a` is the first token by its place
abbrev pub combined_schema : Schema
combined_schema = record {
  start = simple.choice (simple.ref 0) (simple.ref 1);
  elements = defined_as (codes "a") simple.empty ∷ defined_as (codes "b") (simple.choice simple.empty (simple.ref 1)) ∷ [];
}

-- that of with_parent
abbrev pub parent_schema : Schema
parent_schema = record {
  start = simple.ref 0;
  elements = defined_as (codes "a") (simple.ref 1) ∷ defined_as (codes "b") simple.empty ∷ [];
}

-- element b { empty } at each of the places
abbrev pub elements_at : List ℕ → Patterns
elements_at [] = no_pattern
elements_at (at ∷ ats) = more_patterns (element_at (codes "b") at) (elements_at ats)

-- element a { .. } with these joined by `,`
abbrev pub joined_elements : List ℕ → Full
joined_elements ats = one_file 1048575 [] (full.pattern (full.element (full.plain (codes "a") 8) (full.group (elements_at ats)) 0))
