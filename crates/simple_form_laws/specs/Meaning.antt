-- The simple form of a pattern: section Simplification (from mixed element to empty element). An element stands as a reference to its number.
use Rattle.std.specs.Prelude.{◌≡◌, ℕ, List, [], ◌∷◌, Some, None}
use Rattle.rng_model.specs.Texts.{Text}
use Rattle.rng_model.specs.Kinds.{Kind, Token}
use Rattle.rng_model.specs.Classes as class
use Rattle.rng_model.specs.Patterns as simple
use Rattle.rng_model.specs.Constructors.{choice_of, or_empty, group_of, interleave_of, one_or_more_of, attribute_of, data_of}
use Rattle.grammar_laws.specs.Trees.{Class, TypeName, Pattern, Patterns, no_pattern, more_patterns, Items}
use Rattle.grammar_laws.specs.Files.{SchemaFile}
use Rattle.grammar_laws.specs.Trees as full
use Rattle.simple_form_laws.specs.Prefixes.{kind_of}
use Rattle.simple_form_laws.specs.ClassForms.{OfAttribute, class_of}
use Rattle.simple_form_laws.specs.Parts.{Scope, defined}

pub data Connective : Type 0 where
  Group : Connective
  Choice : Connective
  Interleave : Connective

abbrev pub connect : Connective → simple.Pattern → simple.Pattern → simple.Pattern
connect Group p q = group_of p q
connect Choice p q = choice_of p q
connect Interleave p q = interleave_of p q

mutual
  -- the pattern has this simple form in its scope
  pub data Means (fs : List SchemaFile) : Scope → Pattern → simple.Pattern → Type 0 where
    element : {s : Scope} {c : Class} {p : Pattern} {n : ℕ} → Means fs s (full.element c p n) (simple.ref n)
    attribute : {s : Scope} {c : Class} {p : Pattern} {at : ℕ} {d : class.Class} {q r : simple.Pattern} →
        class_of fs OfAttribute c ≡ Some d → Means fs s p q → r ≡ attribute_of d q → Means fs s (full.attribute c p at) r
    group : {s : Scope} {ps : Patterns} {r : simple.Pattern} → Connected fs Group s ps r → Means fs s (full.group ps) r
    choice : {s : Scope} {ps : Patterns} {r : simple.Pattern} → Connected fs Choice s ps r → Means fs s (full.choice ps) r
    interleave : {s : Scope} {ps : Patterns} {r : simple.Pattern} → Connected fs Interleave s ps r → Means fs s (full.interleave ps) r
    optional : {s : Scope} {p : Pattern} {q r : simple.Pattern} → Means fs s p q → r ≡ or_empty q → Means fs s (full.optional p) r
    zero_or_more : {s : Scope} {p : Pattern} {q r : simple.Pattern} →
        Means fs s p q → r ≡ or_empty (one_or_more_of q) → Means fs s (full.zero_or_more p) r
    one_or_more : {s : Scope} {p : Pattern} {q r : simple.Pattern} → Means fs s p q → r ≡ one_or_more_of q → Means fs s (full.one_or_more p) r
    mixed : {s : Scope} {p : Pattern} {q r : simple.Pattern} → Means fs s p q → r ≡ interleave_of q simple.text → Means fs s (full.mixed p) r
    empty : {s : Scope} → Means fs s full.empty simple.empty
    any_text : {s : Scope} → Means fs s full.any_text simple.text
    not_allowed : {s : Scope} → Means fs s full.not_allowed simple.not_allowed
    value : {s : Scope} {t : Text} → Means fs s (full.value None t) (simple.value Token t)
    typed_value : {s : Scope} {of : TypeName} {k : Kind} {t : Text} → kind_of fs of ≡ Some k → Means fs s (full.value (Some of) t) (simple.value k t)
    data_type : {s : Scope} {of : TypeName} {k : Kind} → kind_of fs of ≡ Some k → Means fs s (full.data_type of []) (simple.data_type k)
    data_except : {s : Scope} {of : TypeName} {k : Kind} {p : Pattern} {q r : simple.Pattern} →
        kind_of fs of ≡ Some k → Means fs s p q → r ≡ data_of k q → Means fs s (full.data_except of [] p) r
    grammar : {s : Scope} {is : Items} {r : simple.Pattern} → Means fs (is ∷ s) (defined None is) r → Means fs s (full.grammar is) r
    ref : {s : Scope} {is : Items} {name : Text} {at : ℕ} {r : simple.Pattern} →
        Means fs (is ∷ s) (defined (Some name) is) r → Means fs (is ∷ s) (full.ref name at) r
    parent : {s : Scope} {inner is : Items} {name : Text} {at : ℕ} {r : simple.Pattern} →
        Means fs (is ∷ s) (defined (Some name) is) r → Means fs (inner ∷ is ∷ s) (full.parent name at) r

  -- the members, nested to the left
  pub data Connected (fs : List SchemaFile) : Connective → Scope → Patterns → simple.Pattern → Type 0 where
    first : {j : Connective} {s : Scope} {p : Pattern} {ps : Patterns} {q r : simple.Pattern} →
        Means fs s p q → Behind fs j s q ps r → Connected fs j s (more_patterns p ps) r

  -- the members behind those whose simple form is given
  pub data Behind (fs : List SchemaFile) : Connective → Scope → simple.Pattern → Patterns → simple.Pattern → Type 0 where
    ends : {j : Connective} {s : Scope} {b : simple.Pattern} → Behind fs j s b no_pattern b
    next : {j : Connective} {s : Scope} {p : Pattern} {ps : Patterns} {b q r : simple.Pattern} →
        Means fs s p q → Behind fs j s (connect j b q) ps r → Behind fs j s b (more_patterns p ps) r
