-- What holds of the trees of schemas: places are within so many bytes, local names are NCNames (Namespaces in XML, section 3), and each list of a
-- group, a choice or an interleave has two members or more.
use Rattle.std.specs.Prelude.{◌≡◌, ℕ, ◌≤◌, true, List, [], ◌∷◌, Option, Some, None, ⊤}
use Rattle.rng_model.specs.Names.{is_ncname}
use Rattle.grammar_laws.specs.Trees.{TypeName, built_string, built_token, prefixed_type, Parameter, Passed, Class, Classes, no_classes, more_classes, Pattern, Patterns, no_pattern, more_patterns, Item, start, define, div, include, Items, no_item, more_items, Body, pattern, items}
use Rattle.grammar_laws.specs.Trees as full

abbrev pub HasTwoClasses : Classes → Type 0
HasTwoClasses (more_classes c (more_classes d cs)) = ⊤
HasTwoClasses _ = ⊥

abbrev pub HasTwo : Patterns → Type 0
HasTwo (more_patterns p (more_patterns q ps)) = ⊤
HasTwo _ = ⊥

module _ (n : ℕ) where
  abbrev mutual
    pub IsSoundClass : Class → Type 0
    IsSoundClass (full.plain l a) = (a ≤ n) × (is_ncname l ≡ true)
    IsSoundClass (full.prefixed p l a) = (a ≤ n) × (is_ncname l ≡ true)
    IsSoundClass (full.any a) = a ≤ n
    IsSoundClass (full.any_except c a) = (a ≤ n) × IsSoundClass c
    IsSoundClass (full.namespace p a) = a ≤ n
    IsSoundClass (full.namespace_except p c a) = (a ≤ n) × IsSoundClass c
    IsSoundClass (full.choice_class cs) = HasTwoClasses cs × AreSoundClasses cs

    pub AreSoundClasses : Classes → Type 0
    AreSoundClasses no_classes = ⊤
    AreSoundClasses (more_classes c cs) = IsSoundClass c × AreSoundClasses cs

  abbrev pub IsSoundType : TypeName → Type 0
  IsSoundType (built_string a) = a ≤ n
  IsSoundType (built_token a) = a ≤ n
  IsSoundType (prefixed_type p l a) = a ≤ n

  abbrev pub AreSoundParameters : List Parameter → Type 0
  AreSoundParameters [] = ⊤
  AreSoundParameters (p ∷ ps) = (p.place ≤ n) × AreSoundParameters ps

  abbrev pub IsSoundPassed : Option Passed → Type 0
  IsSoundPassed None = ⊤
  IsSoundPassed (Some h) = h.place ≤ n

  abbrev mutual
    pub IsSoundPattern : Pattern → Type 0
    IsSoundPattern (full.element c p a) = (a ≤ n) × IsSoundClass c × IsSoundPattern p
    IsSoundPattern (full.attribute c p a) = (a ≤ n) × IsSoundClass c × IsSoundPattern p
    IsSoundPattern (full.group ps) = HasTwo ps × AreSoundPatterns ps
    IsSoundPattern (full.choice ps) = HasTwo ps × AreSoundPatterns ps
    IsSoundPattern (full.interleave ps) = HasTwo ps × AreSoundPatterns ps
    IsSoundPattern (full.optional p) = IsSoundPattern p
    IsSoundPattern (full.zero_or_more p) = IsSoundPattern p
    IsSoundPattern (full.one_or_more p) = IsSoundPattern p
    IsSoundPattern (full.list p a) = (a ≤ n) × IsSoundPattern p
    IsSoundPattern (full.mixed p) = IsSoundPattern p
    IsSoundPattern (full.ref l a) = a ≤ n
    IsSoundPattern (full.parent l a) = a ≤ n
    IsSoundPattern full.empty = ⊤
    IsSoundPattern full.any_text = ⊤
    IsSoundPattern full.not_allowed = ⊤
    IsSoundPattern (full.value None l) = ⊤
    IsSoundPattern (full.value (Some k) l) = IsSoundType k
    IsSoundPattern (full.data_type k ps) = IsSoundType k × AreSoundParameters ps
    IsSoundPattern (full.data_except k ps p) = IsSoundType k × AreSoundParameters ps × IsSoundPattern p
    IsSoundPattern (full.external l h a) = (a ≤ n) × IsSoundPassed h
    IsSoundPattern (full.grammar is) = AreSoundItems is

    pub AreSoundPatterns : Patterns → Type 0
    AreSoundPatterns no_pattern = ⊤
    AreSoundPatterns (more_patterns p ps) = IsSoundPattern p × AreSoundPatterns ps

    pub IsSoundItem : Item → Type 0
    IsSoundItem (start m p a) = (a ≤ n) × IsSoundPattern p
    IsSoundItem (define l m p a) = (a ≤ n) × IsSoundPattern p
    IsSoundItem (div is) = AreSoundItems is
    IsSoundItem (include l h is a) = (a ≤ n) × IsSoundPassed h × AreSoundItems is

    pub AreSoundItems : Items → Type 0
    AreSoundItems no_item = ⊤
    AreSoundItems (more_items i is) = IsSoundItem i × AreSoundItems is

  abbrev pub IsSoundBody : Body → Type 0
  IsSoundBody (pattern p) = IsSoundPattern p
  IsSoundBody (items is) = AreSoundItems is
