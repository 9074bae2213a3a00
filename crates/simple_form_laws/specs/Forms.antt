-- The simple form of a tree: section Simplification (define elements, notAllowed element: what can't be reached is left out). The numbers are this project's own.
use Rattle.std.specs.Prelude.{◌≡◌, ℕ, suc, ◌+◌, ◌==◌, ◌↔◌, Bool, List, [], ◌∷◌, ◌++◌, Option, Some, None, length, take, drop, filter, find, filter_map, nat_le, nat_lt, Contains, ⊤}
use Rattle.std.specs.Ordering.{nat_cmp}
use Rattle.std.specs.List.Sorted.{IsStrictlySortedBy}
use Rattle.rng_model.specs.Patterns as simple
use Rattle.rng_model.specs.Patterns.{Schema, Definition}
use Rattle.rng_model.specs.Inside.{Within}
use Rattle.grammar_laws.specs.Trees.{Class, Pattern, Patterns, no_pattern, more_patterns, Items, no_item, more_items, Item, start, define, div, include}
use Rattle.grammar_laws.specs.Files.{Full, body_pattern}
use Rattle.grammar_laws.specs.Trees as full
use Rattle.simple_form_laws.specs.ClassForms.{OfElement, class_of}
use Rattle.simple_form_laws.specs.Parts.{Scope, Part, parts_of}
use Rattle.simple_form_laws.specs.Meaning.{Means}

-- the places of the `element` tokens, in the order of the tree, an outer one before those in it
abbrev mutual
  pub element_places : Pattern → List ℕ
  element_places (full.element c p at) = at ∷ element_places p
  element_places (full.attribute c p at) = element_places p
  element_places (full.group ps) = places_in_list ps
  element_places (full.choice ps) = places_in_list ps
  element_places (full.interleave ps) = places_in_list ps
  element_places (full.optional p) = element_places p
  element_places (full.zero_or_more p) = element_places p
  element_places (full.one_or_more p) = element_places p
  element_places (full.list p at) = element_places p
  element_places (full.mixed p) = element_places p
  element_places (full.data_except k xs p) = element_places p
  element_places (full.grammar is) = places_in_items is
  element_places _ = []

  pub places_in_list : Patterns → List ℕ
  places_in_list no_pattern = []
  places_in_list (more_patterns p ps) = element_places p ++ places_in_list ps

  pub places_in_items : Items → List ℕ
  places_in_items no_item = []
  places_in_items (more_items i rest) = places_in_item i ++ places_in_items rest

  pub places_in_item : Item → List ℕ
  places_in_item (start m p at) = element_places p
  places_in_item (define name m p at) = element_places p
  places_in_item (div inner) = places_in_items inner
  places_in_item (include t passed inner at) = []

abbrev pub how_many : (ℕ → Bool) → List ℕ → ℕ
how_many test xs = length (filter test xs)

-- The number of the token that n others precede in the tree: how many have a lesser place, or the same and precede it.
abbrev pub token_number : List ℕ → ℕ → ℕ → ℕ
token_number places n at = how_many (λ x. nat_le x at) (take n places) + how_many (λ x. nat_lt x at) (drop n places)

-- the tree with the number of each `element` token in the place of its place, where n tokens precede it
module _ (places : List ℕ) where
  abbrev mutual
    pub numbered : ℕ → Pattern → Pattern
    numbered n (full.element c p at) = full.element c (numbered (suc n) p) (token_number places n at)
    numbered n (full.attribute c p at) = full.attribute c (numbered n p) at
    numbered n (full.group ps) = full.group (numbered_list n ps)
    numbered n (full.choice ps) = full.choice (numbered_list n ps)
    numbered n (full.interleave ps) = full.interleave (numbered_list n ps)
    numbered n (full.optional p) = full.optional (numbered n p)
    numbered n (full.zero_or_more p) = full.zero_or_more (numbered n p)
    numbered n (full.one_or_more p) = full.one_or_more (numbered n p)
    numbered n (full.list p at) = full.list (numbered n p) at
    numbered n (full.mixed p) = full.mixed (numbered n p)
    numbered n (full.ref name at) = full.ref name at
    numbered n (full.parent name at) = full.parent name at
    numbered n full.empty = full.empty
    numbered n full.any_text = full.any_text
    numbered n full.not_allowed = full.not_allowed
    numbered n (full.value k t) = full.value k t
    numbered n (full.data_type k xs) = full.data_type k xs
    numbered n (full.data_except k xs p) = full.data_except k xs (numbered n p)
    numbered n (full.external t passed at) = full.external t passed at
    numbered n (full.grammar is) = full.grammar (numbered_items n is)

    pub numbered_list : ℕ → Patterns → Patterns
    numbered_list n no_pattern = no_pattern
    numbered_list n (more_patterns p ps) = more_patterns (numbered n p) (numbered_list (n + length (element_places p)) ps)

    pub numbered_items : ℕ → Items → Items
    numbered_items n no_item = no_item
    numbered_items n (more_items i rest) = more_items (numbered_item n i) (numbered_items (n + length (places_in_item i)) rest)

    pub numbered_item : ℕ → Item → Item
    numbered_item n (start m p at) = start m (numbered n p) at
    numbered_item n (define name m p at) = define name m (numbered n p) at
    numbered_item n (div inner) = div (numbered_items n inner)
    numbered_item n (include t passed inner at) = include t passed inner at

-- the whole tree with its tokens numbered
abbrev pub tree : Full → Pattern
tree f = let p = body_pattern f.body in numbered (element_places p) 0 p

-- an `element` token: its number, and the class and content with their scope
pub record ElementToken : Type 0 where
  pub number : ℕ
  pub scope : Scope
  pub class : Class
  pub content : Pattern

abbrev pub token_at : Scope → Pattern → Option ElementToken
token_at s (full.element c p n) = Some (record { number = n; scope = s; class = c; content = p })
token_at s _ = None

-- the tokens among parts of a tree
abbrev pub tokens_of : List Part → List ElementToken
tokens_of = filter_map (λ x. token_at x.scope x.pattern)

abbrev pub tokens : Full → List ElementToken
tokens f = tokens_of (parts_of [] (tree f))

-- the token of a number
abbrev pub token_of : Full → ℕ → Option ElementToken
token_of f n = find (λ t. t.number == n) (tokens f)

-- a reference to n stands in the simple form
abbrev pub HasRef : ℕ → simple.Pattern → Type 0
HasRef n = Within (λ r. r ≡ simple.ref n)

-- the token can be reached from the start in the simple form
pub data IsReached (f : Full) : ℕ → Type 0 where
  from_start : {n : ℕ} {q : simple.Pattern} → Means f.files [] (tree f) q → HasRef n q → IsReached f n
  from_content : {m n : ℕ} {t : ElementToken} {q : simple.Pattern} →
      IsReached f m → token_of f m ≡ Some t → Means f.files t.scope t.content q → HasRef n q → IsReached f n

-- the definition's number among those that are kept
abbrev pub new_number : List ℕ → ℕ → ℕ
new_number kept n = how_many (λ m. nat_lt m n) kept

abbrev pub renumbered : (ℕ → ℕ) → simple.Pattern → simple.Pattern
renumbered h (simple.ref n) = simple.ref (h n)
renumbered h (simple.data_except k e) = simple.data_except k (renumbered h e)
renumbered h (simple.attribute c p) = simple.attribute c (renumbered h p)
renumbered h (simple.one_or_more p) = simple.one_or_more (renumbered h p)
renumbered h (simple.choice p q) = simple.choice (renumbered h p) (renumbered h q)
renumbered h (simple.group p q) = simple.group (renumbered h p) (renumbered h q)
renumbered h (simple.interleave p q) = simple.interleave (renumbered h p) (renumbered h q)
renumbered h (simple.after p q) = simple.after (renumbered h p) (renumbered h q)
renumbered h p = p

-- each reference of the pattern has the property
abbrev pub RefsIn : (ℕ → Type 0) → simple.Pattern → Type 0
RefsIn K (simple.ref n) = K n
RefsIn K (simple.data_except k e) = RefsIn K e
RefsIn K (simple.attribute c p) = RefsIn K p
RefsIn K (simple.one_or_more p) = RefsIn K p
RefsIn K (simple.choice p q) = RefsIn K p × RefsIn K q
RefsIn K (simple.group p q) = RefsIn K p × RefsIn K q
RefsIn K (simple.interleave p q) = RefsIn K p × RefsIn K q
RefsIn K (simple.after p q) = RefsIn K p × RefsIn K q
RefsIn K p = ⊤

-- the pattern's simple form, with the kept definitions' numbers
abbrev pub IsForm : Full → List ℕ → Scope → Pattern → simple.Pattern → Type 0
IsForm f kept s p r = (q : simple.Pattern) × Means f.files s p q × (r ≡ renumbered (new_number kept) q)

-- the definition of the token of number n
pub record IsDefinition (f : Full) (kept : List ℕ) (n : ℕ) (e : Definition) : Type 0 where
  pub token : ElementToken
  pub is : token_of f n ≡ Some token
  pub class : class_of f.files OfElement token.class ≡ Some e.class
  pub content : IsForm f kept token.scope token.content e.content

-- one definition for each of the tokens, in their order
abbrev pub AreDefinitions : Full → List ℕ → List ℕ → List Definition → Type 0
AreDefinitions f kept [] [] = ⊤
AreDefinitions f kept (n ∷ ns) (e ∷ es) = IsDefinition f kept n e × AreDefinitions f kept ns es
AreDefinitions f kept _ _ = ⊥

-- The schema is the equations' simple form of the tree: its start, and the definitions of the tokens that can be reached, by their numbers.
pub record IsFormOf (f : Full) (g : Schema) : Type 0 where
  pub kept : List ℕ
  pub ascending : IsStrictlySortedBy nat_cmp kept
  pub each : (n : ℕ) → Contains kept n ↔ IsReached f n
  pub start : IsForm f kept [] (tree f) g.start
  pub elements : AreDefinitions f kept kept g.elements
