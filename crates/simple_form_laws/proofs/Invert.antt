-- What the simple form of each pattern says: the relation taken apart.
use Rattle.std.proofs.Common.{◌≡◌, List, [], ◌∷◌, Some, None, refl}
use Rattle.rng_model.specs.Kinds.{Kind, Token}
use Rattle.rng_model.specs.Classes as class
use Rattle.rng_model.specs.Patterns as simple
use Rattle.rng_model.specs.Constructors.{or_empty, interleave_of, one_or_more_of, attribute_of, data_of}
use Rattle.grammar_laws.specs.Trees.{Pattern, Patterns, no_pattern, more_patterns, Items, Parameter}
use Rattle.grammar_laws.specs.Files.{SchemaFile}
use Rattle.grammar_laws.specs.Trees as full
use Rattle.simple_form_laws.specs.Prefixes.{kind_of}
use Rattle.simple_form_laws.specs.ClassForms.{OfAttribute, class_of}
use Rattle.simple_form_laws.specs.Parts.{Scope, defined}
use Rattle.simple_form_laws.specs.Meaning.{Means, Connected, Behind, Connective, Group, Choice, Interleave, connect}
use Rattle.simple_form_laws.specs.Meaning as by

module _ (fs : List SchemaFile) where
  abbrev pub Meaning : Scope → Pattern → simple.Pattern → Type 0
  Meaning s (full.element c p n) r = r ≡ simple.ref n
  Meaning s (full.attribute c p at) r =
      (d : class.Class) × (q : simple.Pattern) × (class_of fs OfAttribute c ≡ Some d) × Means fs s p q × (r ≡ attribute_of d q)
  Meaning s (full.group ps) r = Connected fs Group s ps r
  Meaning s (full.choice ps) r = Connected fs Choice s ps r
  Meaning s (full.interleave ps) r = Connected fs Interleave s ps r
  Meaning s (full.optional p) r = (q : simple.Pattern) × Means fs s p q × (r ≡ or_empty q)
  Meaning s (full.zero_or_more p) r = (q : simple.Pattern) × Means fs s p q × (r ≡ or_empty (one_or_more_of q))
  Meaning s (full.one_or_more p) r = (q : simple.Pattern) × Means fs s p q × (r ≡ one_or_more_of q)
  Meaning s (full.list p at) r = ⊥
  Meaning s (full.mixed p) r = (q : simple.Pattern) × Means fs s p q × (r ≡ interleave_of q simple.text)
  Meaning s full.empty r = r ≡ simple.empty
  Meaning s full.any_text r = r ≡ simple.text
  Meaning s full.not_allowed r = r ≡ simple.not_allowed
  Meaning s (full.value None t) r = r ≡ simple.value Token t
  Meaning s (full.value (Some of) t) r = (k : Kind) × (kind_of fs of ≡ Some k) × (r ≡ simple.value k t)
  Meaning s (full.data_type of []) r = (k : Kind) × (kind_of fs of ≡ Some k) × (r ≡ simple.data_type k)
  Meaning s (full.data_type of (x ∷ xs)) r = ⊥
  Meaning s (full.data_except of [] p) r =
      (k : Kind) × (q : simple.Pattern) × (kind_of fs of ≡ Some k) × Means fs s p q × (r ≡ data_of k q)
  Meaning s (full.data_except of (x ∷ xs) p) r = ⊥
  Meaning s (full.external t passed at) r = ⊥
  Meaning s (full.grammar is) r = Means fs (is ∷ s) (defined None is) r
  Meaning [] (full.ref name at) r = ⊥
  Meaning (is ∷ s) (full.ref name at) r = Means fs (is ∷ s) (defined (Some name) is) r
  Meaning [] (full.parent name at) r = ⊥
  Meaning (is ∷ []) (full.parent name at) r = ⊥
  Meaning (inner ∷ is ∷ s) (full.parent name at) r = Means fs (is ∷ s) (defined (Some name) is) r

  pub meaning : {s : Scope} {p : Pattern} {r : simple.Pattern} → Means fs s p r → Meaning s p r
  meaning by.element = refl
  meaning (by.attribute c h e) = (_, _, c, h, e)
  meaning (by.group h) = h
  meaning (by.choice h) = h
  meaning (by.interleave h) = h
  meaning (by.optional h e) = (_, h, e)
  meaning (by.zero_or_more h e) = (_, h, e)
  meaning (by.one_or_more h e) = (_, h, e)
  meaning (by.mixed h e) = (_, h, e)
  meaning by.empty = refl
  meaning by.any_text = refl
  meaning by.not_allowed = refl
  meaning by.value = refl
  meaning (by.typed_value k) = (_, k, refl)
  meaning (by.data_type k) = (_, k, refl)
  meaning (by.data_except k h e) = (_, _, k, h, e)
  meaning (by.grammar h) = h
  meaning (by.ref h) = h
  meaning (by.parent h) = h

  abbrev pub Connection : Connective → Scope → Patterns → simple.Pattern → Type 0
  Connection j s no_pattern r = ⊥
  Connection j s (more_patterns p ps) r = (q : simple.Pattern) × Means fs s p q × Behind fs j s q ps r

  pub connection : {j : Connective} {s : Scope} {ps : Patterns} {r : simple.Pattern} → Connected fs j s ps r → Connection j s ps r
  connection (by.first h k) = (_, h, k)

  abbrev pub Rest : Connective → Scope → simple.Pattern → Patterns → simple.Pattern → Type 0
  Rest j s b no_pattern r = r ≡ b
  Rest j s b (more_patterns p ps) r = (q : simple.Pattern) × Means fs s p q × Behind fs j s (connect j b q) ps r

  pub rest : {j : Connective} {s : Scope} {b : simple.Pattern} {ps : Patterns} {r : simple.Pattern} → Behind fs j s b ps r → Rest j s b ps r
  rest by.ends = refl
  rest (by.next h k) = (_, h, k)
