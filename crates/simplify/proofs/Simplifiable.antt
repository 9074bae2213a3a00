-- A tree without what isn't taken is one that can be simplified.
use Rattle.std.proofs.Common.{◌≡◌, ℕ, suc, ◌+◌, inl, inr, ◌⊎◌, List, [], ◌∷◌, length, Some, None, refl, sym, subst}
use Rattle.derivative_laws.proofs.Members.{IsIn, in_append, is_in}
use Rattle.grammar_laws.specs.Trees.{Class, Classes, no_classes, more_classes, Parameter, Pattern, Patterns, no_pattern, more_patterns, Items, no_item, more_items, Item, start, define, div, include, Body}
use Rattle.grammar_laws.specs.Trees as full
use Rattle.grammar_laws.specs.Files.{SchemaFile, Full, body_pattern}
use Rattle.schema_tree.specs.Features.{HasFeature, InBody, InItem, InItems, InParameters, InPattern, InPatterns}
use Rattle.schema_tree.specs.Sound.{HasTwo, IsSoundClass, AreSoundClasses, HasTwoClasses, IsSoundPattern, AreSoundPatterns, IsSoundItem, AreSoundItems, IsSoundBody}
use Rattle.schema_tree.specs.declared.features.Feature.{Feature}
use Rattle.simple_form_laws.specs.Parts.{Scope, Part, part, parts_of, parts_of_list, parts_of_items, parts_of_item}
use Rattle.simple_form_laws.specs.Forms.{element_places, places_in_item, numbered, numbered_list, numbered_items, numbered_item}
use Rattle.simple_form_laws.specs.Faults.{AreWholeClasses, IsMany, IsManyClasses, IsSimplifiable, IsSimplifiablePart, IsWholeClass, parts}
use Rattle.simplify.proofs.Types.{known}

-- no feature stands there
abbrev Lacks : (Feature → ℕ → Type 0) → Type 0
Lacks In = (f : Feature) (at : ℕ) → In f at → ⊥

either : {A B C : Type 0} → A ⊎ B → (A → C) → (B → C) → C
either (inl a) f g = f a
either (inr b) f g = g b

many_classes : (cs : Classes) → HasTwoClasses cs → IsManyClasses cs
many_classes no_classes w = w
many_classes (more_classes c cs) w = tt

many : (places : List ℕ) (k : ℕ) (ps : Patterns) → HasTwo ps → IsMany (numbered_list places k ps)
many places k no_pattern w = w
many places k (more_patterns p ps) w = tt

no_parameter : (xs : List Parameter) → Lacks (InParameters xs) → xs ≡ []
no_parameter [] none = refl
no_parameter (x ∷ xs) none = absurd (none Feature.Parameter x.place (refl, refl))

module _ (end : ℕ) where
  mutual
    whole_class : (c : Class) → IsSoundClass end c → IsWholeClass c
    whole_class (full.plain l at) w = tt
    whole_class (full.prefixed p l at) w = tt
    whole_class (full.any at) w = tt
    whole_class (full.any_except c at) w = whole_class c w.1
    whole_class (full.namespace p at) w = tt
    whole_class (full.namespace_except p c at) w = whole_class c w.1
    whole_class (full.choice_class cs) w = (many_classes cs w.0, whole_classes cs w.1)

    whole_classes : (cs : Classes) → AreSoundClasses end cs → AreWholeClasses cs
    whole_classes no_classes w = tt
    whole_classes (more_classes c cs) w = (whole_class c w.0, whole_classes cs w.1)

  module _ (fs : List SchemaFile) (places : List ℕ) where
    here : (s : Scope) (p : Pattern) (x : Part) → IsSimplifiablePart fs p → x ≡ part s p → IsSimplifiablePart fs x.pattern
    here s p x n e = subst (λ y. IsSimplifiablePart fs y.pattern) (sym e) n

    mutual
      each_part : (k : ℕ) (s : Scope) (p : Pattern) → IsSoundPattern end p → Lacks (InPattern fs p) → (x : Part) → IsIn x (parts_of s (numbered places k p)) → IsSimplifiablePart fs x.pattern
      each_part k s (full.element c p at) w none x (inl e) = here s (numbered places k (full.element c p at)) x (whole_class c w.1) e
      each_part k s (full.element c p at) w none x (inr h) = each_part (suc k) s p w.2 none x h
      each_part k s (full.attribute c p at) w none x (inl e) = here s (numbered places k (full.attribute c p at)) x (whole_class c w.1) e
      each_part k s (full.attribute c p at) w none x (inr h) = each_part k s p w.2 none x h
      each_part k s (full.group ps) w none x (inl e) = here s (numbered places k (full.group ps)) x (many places k ps w.0) e
      each_part k s (full.group ps) w none x (inr h) = each_in_list k s ps w.1 none x h
      each_part k s (full.choice ps) w none x (inl e) = here s (numbered places k (full.choice ps)) x (many places k ps w.0) e
      each_part k s (full.choice ps) w none x (inr h) = each_in_list k s ps w.1 none x h
      each_part k s (full.interleave ps) w none x (inl e) = here s (numbered places k (full.interleave ps)) x (many places k ps w.0) e
      each_part k s (full.interleave ps) w none x (inr h) = each_in_list k s ps w.1 none x h
      each_part k s (full.optional p) w none x (inl e) = here s (numbered places k (full.optional p)) x tt e
      each_part k s (full.optional p) w none x (inr h) = each_part k s p w none x h
      each_part k s (full.zero_or_more p) w none x (inl e) = here s (numbered places k (full.zero_or_more p)) x tt e
      each_part k s (full.zero_or_more p) w none x (inr h) = each_part k s p w none x h
      each_part k s (full.one_or_more p) w none x (inl e) = here s (numbered places k (full.one_or_more p)) x tt e
      each_part k s (full.one_or_more p) w none x (inr h) = each_part k s p w none x h
      each_part k s (full.list p at) w none x h = absurd (none Feature.List at (inl (refl, refl)))
      each_part k s (full.mixed p) w none x (inl e) = here s (numbered places k (full.mixed p)) x tt e
      each_part k s (full.mixed p) w none x (inr h) = each_part k s p w none x h
      each_part k s (full.ref name at) w none x (inl e) = here s (full.ref name at) x tt e
      each_part k s (full.ref name at) w none x (inr h) = absurd h
      each_part k s (full.parent name at) w none x (inl e) = here s (full.parent name at) x tt e
      each_part k s (full.parent name at) w none x (inr h) = absurd h
      each_part k s full.empty w none x (inl e) = here s full.empty x tt e
      each_part k s full.empty w none x (inr h) = absurd h
      each_part k s full.any_text w none x (inl e) = here s full.any_text x tt e
      each_part k s full.any_text w none x (inr h) = absurd h
      each_part k s full.not_allowed w none x (inl e) = here s full.not_allowed x tt e
      each_part k s full.not_allowed w none x (inr h) = absurd h
      each_part k s (full.value None l) w none x (inl e) = here s (full.value None l) x tt e
      each_part k s (full.value None l) w none x (inr h) = absurd h
      each_part k s (full.value (Some of) l) w none x (inl e) = here s (full.value (Some of) l) x (known fs of none) e
      each_part k s (full.value (Some of) l) w none x (inr h) = absurd h
      each_part k s (full.data_type of xs) w none x (inl e) = here s (full.data_type of xs) x (no_parameter xs (λ f a i. none f a (inr i)), known fs of (λ f a i. none f a (inl i))) e
      each_part k s (full.data_type of xs) w none x (inr h) = absurd h
      each_part k s (full.data_except of xs p) w none x (inl e) = here s (numbered places k (full.data_except of xs p)) x (no_parameter xs (λ f a i. none f a (inl (inr i))), known fs of (λ f a i. none f a (inl (inl i)))) e
      each_part k s (full.data_except of xs p) w none x (inr h) = each_part k s p w.2 (λ f a i. none f a (inr i)) x h
      each_part k s (full.external l passed at) w none x h = absurd (none Feature.External at (inl (refl, refl)))
      each_part k s (full.grammar is) w none x (inl e) = here s (numbered places k (full.grammar is)) x tt e
      each_part k s (full.grammar is) w none x (inr h) = each_in_items k (numbered_items places k is ∷ s) is w none x h

      each_in_list : (k : ℕ) (s : Scope) (ps : Patterns) → AreSoundPatterns end ps → Lacks (InPatterns fs ps) → (x : Part) → IsIn x (parts_of_list s (numbered_list places k ps)) → IsSimplifiablePart fs x.pattern
      each_in_list k s no_pattern w none x h = absurd h
      each_in_list k s (more_patterns p ps) w none x h =
          either (in_append x (parts_of s (numbered places k p)) (parts_of_list s (numbered_list places (k + length (element_places p)) ps)) h)
          (each_part k s p w.0 (λ f a i. none f a (inl i)) x) (each_in_list (k + length (element_places p)) s ps w.1 (λ f a i. none f a (inr i)) x)

      each_in_items : (k : ℕ) (s : Scope) (is : Items) → AreSoundItems end is → Lacks (InItems fs is) → (x : Part) → IsIn x (parts_of_items s (numbered_items places k is)) → IsSimplifiablePart fs x.pattern
      each_in_items k s no_item w none x h = absurd h
      each_in_items k s (more_items i is) w none x h =
          either (in_append x (parts_of_item s (numbered_item places k i)) (parts_of_items s (numbered_items places (k + length (places_in_item i)) is)) h)
          (each_in_item k s i w.0 (λ f a j. none f a (inl j)) x) (each_in_items (k + length (places_in_item i)) s is w.1 (λ f a j. none f a (inr j)) x)

      each_in_item : (k : ℕ) (s : Scope) (i : Item) → IsSoundItem end i → Lacks (InItem fs i) → (x : Part) → IsIn x (parts_of_item s (numbered_item places k i)) → IsSimplifiablePart fs x.pattern
      each_in_item k s (start m p at) w none x h = each_part k s p w.1 none x h
      each_in_item k s (define name m p at) w none x h = each_part k s p w.1 none x h
      each_in_item k s (div inner) w none x h = each_in_items k s inner w none x h
      each_in_item k s (include l passed inner at) w none x h = absurd h

sound_body : (end : ℕ) (b : Body) → IsSoundBody end b → IsSoundPattern end (body_pattern b)
sound_body end (full.pattern p) w = w
sound_body end (full.items is) w = w

bare_body : (fs : List SchemaFile) (b : Body) → Lacks (InBody fs b) → Lacks (InPattern fs (body_pattern b))
bare_body fs (full.pattern p) none = none
bare_body fs (full.items is) none = none

pub simplifiable : (f : Full) (end : ℕ) → ((x : Feature) (at : ℕ) → HasFeature f x at → ⊥) → IsSoundBody end f.body → IsSimplifiable f
simplifiable f end none sound = λ x i.
    each_part end f.files (element_places (body_pattern f.body)) 0 [] (body_pattern f.body) (sound_body end f.body sound)
    (bare_body f.files f.body (λ g at h. none g at (inr h))) x (is_in x (parts f) i)
