-- The places of `element` tokens count for no fault: the tree with 0 for each of them.
use Rattle.std.proofs.Common.{◌≡◌, ℕ, suc, ◌+◌, List, [], ◌∷◌, ◌++◌, length, map, refl, ap, sym, ◌∙◌}
use Rattle.std.proofs.lemmas.List.{map-append}
use Rattle.grammar_laws.specs.Trees.{Pattern, Patterns, no_pattern, more_patterns, Items, no_item, more_items, Item, start, define, div, include}
use Rattle.grammar_laws.specs.Trees as full
use Rattle.simple_form_laws.specs.Parts.{Scope, Part, part, parts_of, parts_of_list, parts_of_items, parts_of_item}
use Rattle.simple_form_laws.specs.Forms.{element_places, places_in_item, numbered, numbered_list, numbered_items, numbered_item}

abbrev mutual
  pub bare : Pattern → Pattern
  bare (full.element c p at) = full.element c (bare p) 0
  bare (full.attribute c p at) = full.attribute c (bare p) at
  bare (full.group ps) = full.group (bare_list ps)
  bare (full.choice ps) = full.choice (bare_list ps)
  bare (full.interleave ps) = full.interleave (bare_list ps)
  bare (full.optional p) = full.optional (bare p)
  bare (full.zero_or_more p) = full.zero_or_more (bare p)
  bare (full.one_or_more p) = full.one_or_more (bare p)
  bare (full.list p at) = full.list (bare p) at
  bare (full.mixed p) = full.mixed (bare p)
  bare (full.ref name at) = full.ref name at
  bare (full.parent name at) = full.parent name at
  bare full.empty = full.empty
  bare full.any_text = full.any_text
  bare full.not_allowed = full.not_allowed
  bare (full.value k t) = full.value k t
  bare (full.data_type k xs) = full.data_type k xs
  bare (full.data_except k xs p) = full.data_except k xs (bare p)
  bare (full.external t passed at) = full.external t passed at
  bare (full.grammar is) = full.grammar (bare_items is)

  pub bare_list : Patterns → Patterns
  bare_list no_pattern = no_pattern
  bare_list (more_patterns p ps) = more_patterns (bare p) (bare_list ps)

  pub bare_items : Items → Items
  bare_items no_item = no_item
  bare_items (more_items i rest) = more_items (bare_item i) (bare_items rest)

  pub bare_item : Item → Item
  bare_item (start m p at) = start m (bare p) at
  bare_item (define name m p at) = define name m (bare p) at
  bare_item (div inner) = div (bare_items inner)
  bare_item (include t passed inner at) = include t passed inner at

abbrev pub bare_part : Part → Part
bare_part x = part (map bare_items x.scope) (bare x.pattern)

-- the numbers don't show
module _ (places : List ℕ) where
  mutual
    pub bare_numbered : (n : ℕ) (p : Pattern) → bare (numbered places n p) ≡ bare p
    bare_numbered n (full.element c p at) = ap (λ q. full.element c q 0) (bare_numbered (suc n) p)
    bare_numbered n (full.attribute c p at) = ap (λ q. full.attribute c q at) (bare_numbered n p)
    bare_numbered n (full.group ps) = ap full.group (bare_numbered_list n ps)
    bare_numbered n (full.choice ps) = ap full.choice (bare_numbered_list n ps)
    bare_numbered n (full.interleave ps) = ap full.interleave (bare_numbered_list n ps)
    bare_numbered n (full.optional p) = ap full.optional (bare_numbered n p)
    bare_numbered n (full.zero_or_more p) = ap full.zero_or_more (bare_numbered n p)
    bare_numbered n (full.one_or_more p) = ap full.one_or_more (bare_numbered n p)
    bare_numbered n (full.list p at) = ap (λ q. full.list q at) (bare_numbered n p)
    bare_numbered n (full.mixed p) = ap full.mixed (bare_numbered n p)
    bare_numbered n (full.ref name at) = refl
    bare_numbered n (full.parent name at) = refl
    bare_numbered n full.empty = refl
    bare_numbered n full.any_text = refl
    bare_numbered n full.not_allowed = refl
    bare_numbered n (full.value k t) = refl
    bare_numbered n (full.data_type k xs) = refl
    bare_numbered n (full.data_except k xs p) = ap (λ q. full.data_except k xs q) (bare_numbered n p)
    bare_numbered n (full.external t passed at) = refl
    bare_numbered n (full.grammar is) = ap full.grammar (bare_numbered_items n is)

    pub bare_numbered_list : (n : ℕ) (ps : Patterns) → bare_list (numbered_list places n ps) ≡ bare_list ps
    bare_numbered_list n no_pattern = refl
    bare_numbered_list n (more_patterns p ps) = λ i. more_patterns (bare_numbered n p i) (bare_numbered_list (n + length (element_places p)) ps i)

    pub bare_numbered_items : (n : ℕ) (is : Items) → bare_items (numbered_items places n is) ≡ bare_items is
    bare_numbered_items n no_item = refl
    bare_numbered_items n (more_items j rest) = λ i. more_items (bare_numbered_item n j i) (bare_numbered_items (n + length (places_in_item j)) rest i)

    pub bare_numbered_item : (n : ℕ) (j : Item) → bare_item (numbered_item places n j) ≡ bare_item j
    bare_numbered_item n (start m p at) = ap (λ q. start m q at) (bare_numbered n p)
    bare_numbered_item n (define name m p at) = ap (λ q. define name m q at) (bare_numbered n p)
    bare_numbered_item n (div inner) = ap div (bare_numbered_items n inner)
    bare_numbered_item n (include t passed inner at) = refl

-- the parts of the bare tree
mutual
  pub parts_bare : (s : Scope) (p : Pattern) → parts_of (map bare_items s) (bare p) ≡ map bare_part (parts_of s p)
  parts_bare s (full.element c p at) = ap (λ l. bare_part (part s (full.element c p at)) ∷ l) (parts_bare s p)
  parts_bare s (full.attribute c p at) = ap (λ l. bare_part (part s (full.attribute c p at)) ∷ l) (parts_bare s p)
  parts_bare s (full.group ps) = ap (λ l. bare_part (part s (full.group ps)) ∷ l) (parts_bare_list s ps)
  parts_bare s (full.choice ps) = ap (λ l. bare_part (part s (full.choice ps)) ∷ l) (parts_bare_list s ps)
  parts_bare s (full.interleave ps) = ap (λ l. bare_part (part s (full.interleave ps)) ∷ l) (parts_bare_list s ps)
  parts_bare s (full.optional p) = ap (λ l. bare_part (part s (full.optional p)) ∷ l) (parts_bare s p)
  parts_bare s (full.zero_or_more p) = ap (λ l. bare_part (part s (full.zero_or_more p)) ∷ l) (parts_bare s p)
  parts_bare s (full.one_or_more p) = ap (λ l. bare_part (part s (full.one_or_more p)) ∷ l) (parts_bare s p)
  parts_bare s (full.list p at) = ap (λ l. bare_part (part s (full.list p at)) ∷ l) (parts_bare s p)
  parts_bare s (full.mixed p) = ap (λ l. bare_part (part s (full.mixed p)) ∷ l) (parts_bare s p)
  parts_bare s (full.ref name at) = refl
  parts_bare s (full.parent name at) = refl
  parts_bare s full.empty = refl
  parts_bare s full.any_text = refl
  parts_bare s full.not_allowed = refl
  parts_bare s (full.value k t) = refl
  parts_bare s (full.data_type k xs) = refl
  parts_bare s (full.data_except k xs p) = ap (λ l. bare_part (part s (full.data_except k xs p)) ∷ l) (parts_bare s p)
  parts_bare s (full.external t passed at) = refl
  parts_bare s (full.grammar is) = ap (λ l. bare_part (part s (full.grammar is)) ∷ l) (parts_bare_items (is ∷ s) is)

  pub parts_bare_list : (s : Scope) (ps : Patterns) → parts_of_list (map bare_items s) (bare_list ps) ≡ map bare_part (parts_of_list s ps)
  parts_bare_list s no_pattern = refl
  parts_bare_list s (more_patterns p ps) =
      (λ i. parts_bare s p i ++ parts_bare_list s ps i) ∙ sym (map-append bare_part (parts_of s p) (parts_of_list s ps))

  pub parts_bare_items : (s : Scope) (is : Items) → parts_of_items (map bare_items s) (bare_items is) ≡ map bare_part (parts_of_items s is)
  parts_bare_items s no_item = refl
  parts_bare_items s (more_items j rest) =
      (λ i. parts_bare_item s j i ++ parts_bare_items s rest i) ∙ sym (map-append bare_part (parts_of_item s j) (parts_of_items s rest))

  pub parts_bare_item : (s : Scope) (j : Item) → parts_of_item (map bare_items s) (bare_item j) ≡ map bare_part (parts_of_item s j)
  parts_bare_item s (start m p at) = parts_bare s p
  parts_bare_item s (define name m p at) = parts_bare s p
  parts_bare_item s (div inner) = parts_bare_items s inner
  parts_bare_item s (include t passed inner at) = refl

-- what doesn't see the places of tokens is the same over the tree as it stands and over the one with its tokens numbered
module _ {A : Type 0} (G : List Part → A) (same : (xs : List Part) → G (map bare_part xs) ≡ G xs) where
  over_bare : (p : Pattern) → G (parts_of [] (bare p)) ≡ G (parts_of [] p)
  over_bare p = ap G (parts_bare [] p) ∙ same (parts_of [] p)

  pub over_numbered : (places : List ℕ) (n : ℕ) (p : Pattern) → G (parts_of [] (numbered places n p)) ≡ G (parts_of [] p)
  over_numbered places n p = sym (over_bare (numbered places n p)) ∙ ap (λ q. G (parts_of [] q)) (bare_numbered places n p) ∙ over_bare p
