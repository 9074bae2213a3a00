-- What every tree that tokens derive has, whatever it says; simplification rests on it.
use Rattle.std.specs.Prelude.{◌≡◌, ℕ, ◌≤◌, List, [], ◌∷◌, ◌++◌, Option, Some, None, Contains, IsTrue, IsUtf8, ⊤}
use Rattle.rng_model.specs.Texts.{Text}
use Rattle.rng_model.specs.Names.{is_ncname}
use Rattle.grammar_laws.specs.Trees.{Uri, Declaration, TypeName, Parameter, Passed, Class, Classes, no_classes, more_classes, Pattern, Patterns, no_pattern, more_patterns, Item, Items, no_item, more_items, Body}
use Rattle.grammar_laws.specs.Trees as full

-- what is asked of each pattern, each name class and each item by itself
pub record Tests : Type 1 where
  pub pattern : Pattern → Type 0
  pub class : Class → Type 0
  pub item : Item → Type 0

-- the name class passes, and each in it
abbrev mutual
  pub PassesClass : Tests → Class → Type 0
  PassesClass t (full.any_except c at) = t.class (full.any_except c at) × PassesClass t c
  PassesClass t (full.namespace_except p c at) = t.class (full.namespace_except p c at) × PassesClass t c
  PassesClass t (full.choice_class cs) = t.class (full.choice_class cs) × PassClasses t cs
  PassesClass t c = t.class c

  pub PassClasses : Tests → Classes → Type 0
  PassClasses t no_classes = ⊤
  PassClasses t (more_classes c cs) = PassesClass t c × PassClasses t cs

-- the pattern passes, and each pattern, name class and item in it
abbrev mutual
  pub Passes : Tests → Pattern → Type 0
  Passes t (full.element c p at) = t.pattern (full.element c p at) × PassesClass t c × Passes t p
  Passes t (full.attribute c p at) = t.pattern (full.attribute c p at) × PassesClass t c × Passes t p
  Passes t (full.group ps) = t.pattern (full.group ps) × PassPatterns t ps
  Passes t (full.choice ps) = t.pattern (full.choice ps) × PassPatterns t ps
  Passes t (full.interleave ps) = t.pattern (full.interleave ps) × PassPatterns t ps
  Passes t (full.optional p) = t.pattern (full.optional p) × Passes t p
  Passes t (full.zero_or_more p) = t.pattern (full.zero_or_more p) × Passes t p
  Passes t (full.one_or_more p) = t.pattern (full.one_or_more p) × Passes t p
  Passes t (full.list p at) = t.pattern (full.list p at) × Passes t p
  Passes t (full.mixed p) = t.pattern (full.mixed p) × Passes t p
  Passes t (full.data_except of xs p) = t.pattern (full.data_except of xs p) × Passes t p
  Passes t (full.grammar is) = t.pattern (full.grammar is) × PassItems t is
  Passes t p = t.pattern p

  pub PassPatterns : Tests → Patterns → Type 0
  PassPatterns t no_pattern = ⊤
  PassPatterns t (more_patterns p ps) = Passes t p × PassPatterns t ps

  pub PassesItem : Tests → Item → Type 0
  PassesItem t (full.start m p at) = t.item (full.start m p at) × Passes t p
  PassesItem t (full.define n m p at) = t.item (full.define n m p at) × Passes t p
  PassesItem t (full.div is) = t.item (full.div is) × PassItems t is
  PassesItem t (full.include l h is at) = t.item (full.include l h is at) × PassItems t is

  pub PassItems : Tests → Items → Type 0
  PassItems t no_item = ⊤
  PassItems t (more_items i is) = PassesItem t i × PassItems t is

abbrev pub PassesBody : Tests → Body → Type 0
PassesBody t (full.pattern p) = Passes t p
PassesBody t (full.items is) = PassItems t is

-- Lists have two members or more.
abbrev pub HasOne : Patterns → Type 0
HasOne no_pattern = ⊥
HasOne (more_patterns p ps) = ⊤

abbrev pub HasTwo : Patterns → Type 0
HasTwo no_pattern = ⊥
HasTwo (more_patterns p ps) = HasOne ps

abbrev pub HasOneClass : Classes → Type 0
HasOneClass no_classes = ⊥
HasOneClass (more_classes c cs) = ⊤

abbrev pub HasTwoClasses : Classes → Type 0
HasTwoClasses no_classes = ⊥
HasTwoClasses (more_classes c cs) = HasOneClass cs

abbrev pub HasMembers : Pattern → Type 0
HasMembers (full.group ps) = HasTwo ps
HasMembers (full.choice ps) = HasTwo ps
HasMembers (full.interleave ps) = HasTwo ps
HasMembers p = ⊤

abbrev pub HasClassMembers : Class → Type 0
HasClassMembers (full.choice_class cs) = HasTwoClasses cs
HasClassMembers c = ⊤

abbrev pub with_members : Tests
with_members = record { pattern = HasMembers; class = HasClassMembers; item = λ i. ⊤ }

-- Local names are texts, and NCNames.
abbrev pub IsLocalName : Text → Type 0
IsLocalName l = IsUtf8 l × IsTrue (is_ncname l)

abbrev pub HasNcname : Class → Type 0
HasNcname (full.plain l at) = IsLocalName l
HasNcname (full.prefixed p l at) = IsLocalName l
HasNcname c = ⊤

abbrev pub with_ncnames : Tests
with_ncnames = record { pattern = λ p. ⊤; class = HasNcname; item = λ i. ⊤ }

-- Places are at most `end`.
abbrev pub IsUriWithin : ℕ → Uri → Type 0
IsUriWithin end (full.literal l) = ⊤
IsUriWithin end (full.inherit at) = at ≤ end

abbrev pub IsDeclarationWithin : ℕ → Declaration → Type 0
IsDeclarationWithin end (full.namespace_prefix p u at) = (at ≤ end) × IsUriWithin end u
IsDeclarationWithin end (full.default_namespace p u at) = (at ≤ end) × IsUriWithin end u
IsDeclarationWithin end (full.datatypes p l at) = at ≤ end

abbrev pub AreDeclarationsWithin : ℕ → List Declaration → Type 0
AreDeclarationsWithin end [] = ⊤
AreDeclarationsWithin end (d ∷ ds) = IsDeclarationWithin end d × AreDeclarationsWithin end ds

abbrev pub IsTypeWithin : ℕ → TypeName → Type 0
IsTypeWithin end (full.built_string at) = at ≤ end
IsTypeWithin end (full.built_token at) = at ≤ end
IsTypeWithin end (full.prefixed_type p l at) = at ≤ end

abbrev pub AreParametersWithin : ℕ → List Parameter → Type 0
AreParametersWithin end [] = ⊤
AreParametersWithin end (x ∷ xs) = (x.place ≤ end) × AreParametersWithin end xs

abbrev pub IsPassedWithin : ℕ → Option Passed → Type 0
IsPassedWithin end None = ⊤
IsPassedWithin end (Some h) = h.place ≤ end

abbrev pub IsClassWithin : ℕ → Class → Type 0
IsClassWithin end (full.plain l at) = at ≤ end
IsClassWithin end (full.prefixed p l at) = at ≤ end
IsClassWithin end (full.any at) = at ≤ end
IsClassWithin end (full.any_except c at) = at ≤ end
IsClassWithin end (full.namespace p at) = at ≤ end
IsClassWithin end (full.namespace_except p c at) = at ≤ end
IsClassWithin end (full.choice_class cs) = ⊤

abbrev pub IsPatternWithin : ℕ → Pattern → Type 0
IsPatternWithin end (full.element c p at) = at ≤ end
IsPatternWithin end (full.attribute c p at) = at ≤ end
IsPatternWithin end (full.list p at) = at ≤ end
IsPatternWithin end (full.ref n at) = at ≤ end
IsPatternWithin end (full.parent n at) = at ≤ end
IsPatternWithin end (full.value (Some of) l) = IsTypeWithin end of
IsPatternWithin end (full.data_type of xs) = IsTypeWithin end of × AreParametersWithin end xs
IsPatternWithin end (full.data_except of xs p) = IsTypeWithin end of × AreParametersWithin end xs
IsPatternWithin end (full.external l h at) = (at ≤ end) × IsPassedWithin end h
IsPatternWithin end p = ⊤

abbrev pub IsItemWithin : ℕ → Item → Type 0
IsItemWithin end (full.start m p at) = at ≤ end
IsItemWithin end (full.define n m p at) = at ≤ end
IsItemWithin end (full.div is) = ⊤
IsItemWithin end (full.include l h is at) = (at ≤ end) × IsPassedWithin end h

abbrev pub within : ℕ → Tests
within end = record { pattern = IsPatternWithin end; class = IsClassWithin end; item = IsItemWithin end }

-- The places of the references, in the order of the tree.
abbrev mutual
  pub references : Pattern → List ℕ
  references (full.ref n at) = at ∷ []
  references (full.parent n at) = at ∷ []
  references (full.element c p at) = references p
  references (full.attribute c p at) = references p
  references (full.group ps) = references_of_patterns ps
  references (full.choice ps) = references_of_patterns ps
  references (full.interleave ps) = references_of_patterns ps
  references (full.optional p) = references p
  references (full.zero_or_more p) = references p
  references (full.one_or_more p) = references p
  references (full.list p at) = references p
  references (full.mixed p) = references p
  references (full.data_except of xs p) = references p
  references (full.grammar is) = references_of_items is
  references p = []

  pub references_of_patterns : Patterns → List ℕ
  references_of_patterns no_pattern = []
  references_of_patterns (more_patterns p ps) = references p ++ references_of_patterns ps

  pub references_of_item : Item → List ℕ
  references_of_item (full.start m p at) = references p
  references_of_item (full.define n m p at) = references p
  references_of_item (full.div is) = references_of_items is
  references_of_item (full.include l h is at) = references_of_items is

  pub references_of_items : Items → List ℕ
  references_of_items no_item = []
  references_of_items (more_items i is) = references_of_item i ++ references_of_items is

abbrev pub references_of_body : Body → List ℕ
references_of_body (full.pattern p) = references p
references_of_body (full.items is) = references_of_items is

-- two positions at which one number stands are the same
abbrev pub AreDistinct : List ℕ → Type 0
AreDistinct xs = (a : ℕ) (m n : Contains xs a) → m.0 ≡ n.0

-- a body whose places are at most `end`
pub record IsWhole (end : ℕ) (b : Body) : Type 0 where
  pub places : PassesBody (within end) b
  pub names : PassesBody with_ncnames b
  pub members : PassesBody with_members b
  pub references : AreDistinct (references_of_body b)
