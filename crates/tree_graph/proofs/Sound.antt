-- A tree without a fault that comes before loops is sound, part by part.
use Rattle.std.proofs.Common.{◌≡◌, ℕ, suc, ◌+◌, ◌<◌, inl, inr, ◌⊎◌, Bool, true, false, List, [], ◌∷◌, length, Some, None, refl, sym, subst}
use Rattle.std.specs.Prelude.{⊤}
use Rattle.std.specs.List.{AllByRecursion}
use Rattle.rng_model.specs.Texts.{Text}
use Rattle.derivative_laws.proofs.Members.{IsIn, in_append, contained}
use Rattle.grammar_laws.specs.Trees.{Class, Classes, no_classes, more_classes, Pattern, Patterns, no_pattern, more_patterns, Items, no_item, more_items, Item, start, define, div, include, Body}
use Rattle.grammar_laws.specs.Trees as full
use Rattle.grammar_laws.specs.Files.{SchemaFile, Full, body_pattern}
use Rattle.schema_tree.specs.Sound.{IsSoundClass, AreSoundClasses, IsSoundPattern, AreSoundPatterns, IsSoundItem, AreSoundItems, IsSoundBody}
use Rattle.simple_form_laws.specs.Parts.{Scope, Part, part, parts_of, parts_of_list, parts_of_items, parts_of_item, entries_of}
use Rattle.simple_form_laws.specs.Forms.{element_places, places_in_item, numbered, numbered_list, numbered_items, numbered_item}
use Rattle.simple_form_laws.specs.Faults.{Fault, HasFault, IsSimplifiable, IsSimplifiablePart, fault_number, is_empty_list, parent_in, parts, place_if, undefined_in}
use Rattle.simple_form_laws.proofs.Faultless.{IsResolved, resolved}
use Rattle.name_resolution.specs.NcNames.{HasNcNames, HaveNcNames}
use Rattle.tree_graph.specs.Walks.{IsDefined, IsDefinedOutside, IsSound, AreSound}

-- the pattern's own class has NCNames
abbrev HasOwnNames : Pattern → Type 0
HasOwnNames (full.element c p at) = HasNcNames c
HasOwnNames (full.attribute c p at) = HasNcNames c
HasOwnNames p = ⊤

either : {A B C : Type 0} → A ⊎ B → (A → C) → (B → C) → C
either (inl a) f g = f a
either (inr b) f g = g b

module _ (end : ℕ) where
  mutual
    names_of_class : (c : Class) → IsSoundClass end c → HasNcNames c
    names_of_class (full.plain l at) w = w.1
    names_of_class (full.prefixed p l at) w = w.1
    names_of_class (full.any at) w = tt
    names_of_class (full.any_except c at) w = names_of_class c w.1
    names_of_class (full.namespace p at) w = tt
    names_of_class (full.namespace_except p c at) w = names_of_class c w.1
    names_of_class (full.choice_class cs) w = names_of_classes cs w.1

    names_of_classes : (cs : Classes) → AreSoundClasses end cs → HaveNcNames cs
    names_of_classes no_classes w = tt
    names_of_classes (more_classes c cs) w = (names_of_class c w.0, names_of_classes cs w.1)

  module _ (places : List ℕ) where
    here : (s : Scope) (p : Pattern) (x : Part) → HasOwnNames p → x ≡ part s p → HasOwnNames x.pattern
    here s p x n e = subst (λ y. HasOwnNames y.pattern) (sym e) n

    mutual
      own_names : (k : ℕ) (s : Scope) (p : Pattern) → IsSoundPattern end p → (x : Part) → IsIn x (parts_of s (numbered places k p)) → HasOwnNames x.pattern
      own_names k s (full.element c p at) w x (inl e) = here s (numbered places k (full.element c p at)) x (names_of_class c w.1) e
      own_names k s (full.element c p at) w x (inr h) = own_names (suc k) s p w.2 x h
      own_names k s (full.attribute c p at) w x (inl e) = here s (numbered places k (full.attribute c p at)) x (names_of_class c w.1) e
      own_names k s (full.attribute c p at) w x (inr h) = own_names k s p w.2 x h
      own_names k s (full.group ps) w x (inl e) = here s (numbered places k (full.group ps)) x tt e
      own_names k s (full.group ps) w x (inr h) = own_names_in_list k s ps w.1 x h
      own_names k s (full.choice ps) w x (inl e) = here s (numbered places k (full.choice ps)) x tt e
      own_names k s (full.choice ps) w x (inr h) = own_names_in_list k s ps w.1 x h
      own_names k s (full.interleave ps) w x (inl e) = here s (numbered places k (full.interleave ps)) x tt e
      own_names k s (full.interleave ps) w x (inr h) = own_names_in_list k s ps w.1 x h
      own_names k s (full.optional p) w x (inl e) = here s (numbered places k (full.optional p)) x tt e
      own_names k s (full.optional p) w x (inr h) = own_names k s p w x h
      own_names k s (full.zero_or_more p) w x (inl e) = here s (numbered places k (full.zero_or_more p)) x tt e
      own_names k s (full.zero_or_more p) w x (inr h) = own_names k s p w x h
      own_names k s (full.one_or_more p) w x (inl e) = here s (numbered places k (full.one_or_more p)) x tt e
      own_names k s (full.one_or_more p) w x (inr h) = own_names k s p w x h
      own_names k s (full.list p at) w x (inl e) = here s (numbered places k (full.list p at)) x tt e
      own_names k s (full.list p at) w x (inr h) = own_names k s p w.1 x h
      own_names k s (full.mixed p) w x (inl e) = here s (numbered places k (full.mixed p)) x tt e
      own_names k s (full.mixed p) w x (inr h) = own_names k s p w x h
      own_names k s (full.ref name at) w x (inl e) = here s (full.ref name at) x tt e
      own_names k s (full.ref name at) w x (inr h) = absurd h
      own_names k s (full.parent name at) w x (inl e) = here s (full.parent name at) x tt e
      own_names k s (full.parent name at) w x (inr h) = absurd h
      own_names k s full.empty w x (inl e) = here s full.empty x tt e
      own_names k s full.empty w x (inr h) = absurd h
      own_names k s full.any_text w x (inl e) = here s full.any_text x tt e
      own_names k s full.any_text w x (inr h) = absurd h
      own_names k s full.not_allowed w x (inl e) = here s full.not_allowed x tt e
      own_names k s full.not_allowed w x (inr h) = absurd h
      own_names k s (full.value of l) w x (inl e) = here s (full.value of l) x tt e
      own_names k s (full.value of l) w x (inr h) = absurd h
      own_names k s (full.data_type of xs) w x (inl e) = here s (full.data_type of xs) x tt e
      own_names k s (full.data_type of xs) w x (inr h) = absurd h
      own_names k s (full.data_except of xs p) w x (inl e) = here s (numbered places k (full.data_except of xs p)) x tt e
      own_names k s (full.data_except of xs p) w x (inr h) = own_names k s p w.2 x h
      own_names k s (full.external l passed at) w x (inl e) = here s (full.external l passed at) x tt e
      own_names k s (full.external l passed at) w x (inr h) = absurd h
      own_names k s (full.grammar is) w x (inl e) = here s (numbered places k (full.grammar is)) x tt e
      own_names k s (full.grammar is) w x (inr h) = own_names_in_items k (numbered_items places k is ∷ s) is w x h

      own_names_in_list : (k : ℕ) (s : Scope) (ps : Patterns) → AreSoundPatterns end ps → (x : Part) → IsIn x (parts_of_list s (numbered_list places k ps)) → HasOwnNames x.pattern
      own_names_in_list k s no_pattern w x h = absurd h
      own_names_in_list k s (more_patterns p ps) w x h =
          either (in_append x (parts_of s (numbered places k p)) (parts_of_list s (numbered_list places (k + length (element_places p)) ps)) h)
          (own_names k s p w.0 x) (own_names_in_list (k + length (element_places p)) s ps w.1 x)

      own_names_in_items : (k : ℕ) (s : Scope) (is : Items) → AreSoundItems end is → (x : Part) → IsIn x (parts_of_items s (numbered_items places k is)) → HasOwnNames x.pattern
      own_names_in_items k s no_item w x h = absurd h
      own_names_in_items k s (more_items i is) w x h =
          either (in_append x (parts_of_item s (numbered_item places k i)) (parts_of_items s (numbered_items places (k + length (places_in_item i)) is)) h)
          (own_names_in_item k s i w.0 x) (own_names_in_items (k + length (places_in_item i)) s is w.1 x)

      own_names_in_item : (k : ℕ) (s : Scope) (i : Item) → IsSoundItem end i → (x : Part) → IsIn x (parts_of_item s (numbered_item places k i)) → HasOwnNames x.pattern
      own_names_in_item k s (start m p at) w x h = own_names k s p w.1 x h
      own_names_in_item k s (define name m p at) w x h = own_names k s p w.1 x h
      own_names_in_item k s (div inner) w x h = own_names_in_items k s inner w x h
      own_names_in_item k s (include l passed inner at) w x h = absurd h

-- no place, where the test isn't passed
no_place : (b : Bool) (at : ℕ) → ((n : ℕ) → IsIn n (place_if b at) → ⊥) → b ≡ false
no_place true at h = absurd (h at (inl refl))
no_place false at h = refl

sound_reference : (s : Scope) (name : Text) (at : ℕ) → ((n : ℕ) → IsIn n (undefined_in s (full.ref name at)) → ⊥) → IsDefined s name
sound_reference [] name at h = absurd (h at (inl refl))
sound_reference (is ∷ s) name at h = no_place (is_empty_list (entries_of (Some name) is)) at h

sound_parent : (s : Scope) (name : Text) (at : ℕ) → ((n : ℕ) → IsIn n (undefined_in s (full.parent name at)) → ⊥) → ((n : ℕ) → IsIn n (parent_in s (full.parent name at)) → ⊥) → IsDefinedOutside s name
sound_parent [] name at h k = absurd (k at (inl refl))
sound_parent (is ∷ []) name at h k = absurd (k at (inl refl))
sound_parent (inner ∷ is ∷ s) name at h k = no_place (is_empty_list (entries_of (Some name) is)) at h

sound_part : (fs : List SchemaFile) (s : Scope) (p : Pattern) → IsSimplifiablePart fs p → IsResolved fs (part s p) → HasOwnNames p → IsSound fs s p
sound_part fs s (full.element c p at) t r n = (n, r.formed)
sound_part fs s (full.attribute c p at) t r n = (n, r.formed)
sound_part fs s (full.group ps) t r n = t
sound_part fs s (full.choice ps) t r n = t
sound_part fs s (full.interleave ps) t r n = t
sound_part fs s (full.optional p) t r n = tt
sound_part fs s (full.zero_or_more p) t r n = tt
sound_part fs s (full.one_or_more p) t r n = tt
sound_part fs s (full.list p at) t r n = t
sound_part fs s (full.mixed p) t r n = tt
sound_part fs s (full.ref name at) t r n = sound_reference s name at r.defined
sound_part fs s (full.parent name at) t r n = sound_parent s name at r.defined r.inside
sound_part fs s full.empty t r n = tt
sound_part fs s full.any_text t r n = tt
sound_part fs s full.not_allowed t r n = tt
sound_part fs s (full.value None l) t r n = tt
sound_part fs s (full.value (Some of) l) t r n = r.formed
sound_part fs s (full.data_type of []) t r n = (refl, r.formed)
sound_part fs s (full.data_type of (x ∷ xs)) t r n = absurd r.formed
sound_part fs s (full.data_except of [] p) t r n = (refl, r.formed)
sound_part fs s (full.data_except of (x ∷ xs) p) t r n = absurd r.formed
sound_part fs s (full.external l passed at) t r n = t
sound_part fs s (full.grammar is) t r n = r.started

all_in : {X : Type 0} (P : X → Type 0) (xs : List X) → ((x : X) → IsIn x xs → P x) → AllByRecursion P xs
all_in P [] h = tt
all_in P (x ∷ xs) h = (h x (inl refl), all_in P xs (λ y i. h y (inr i)))

sound_body : (end : ℕ) (b : Body) → IsSoundBody end b → IsSoundPattern end (body_pattern b)
sound_body end (full.pattern p) w = w
sound_body end (full.items is) w = w

pub sound_parts : (f : Full) (end : ℕ) → IsSimplifiable f → ((x : Fault) → fault_number x < 41 → HasFault f x → ⊥) → IsSoundBody end f.body → AreSound f.files (parts f)
sound_parts f end taken none sound = all_in (λ x. IsSound f.files x.scope x.pattern) (parts f)
    (λ x i. sound_part f.files x.scope x.pattern (taken x (contained x (parts f) i)) (resolved f taken none x i)
    (own_names end (element_places (body_pattern f.body)) 0 [] (body_pattern f.body) (sound_body end f.body sound) x i))
