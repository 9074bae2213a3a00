-- No two references stand at one place.
use Rattle.std.proofs.Common.{◌≡◌, ℕ, zero, suc, ◌+◌, inl, inr, List, [], ◌∷◌, ◌++◌, length, Option, Some, None, refl, sym, ap, ◌∙◌, subst, arith}
use Rattle.std.specs.Prelude.{slice_get, filter_map, Contains, ⊤}
use Rattle.std.specs.List.{cons_option}
use Rattle.std.proofs.lemmas.List.Elements.{filter_map-append}
use Rattle.derivative_laws.proofs.Members.{IsIn, contained}
use Rattle.grammar_laws.specs.Trees.{Pattern, Patterns, no_pattern, more_patterns, Items, no_item, more_items, Item, start, define, div, include, Body}
use Rattle.grammar_laws.specs.Trees as full
use Rattle.grammar_laws.specs.Files.{body_pattern}
use Rattle.tree_laws.specs.WholeBodies.{references, references_of_patterns, references_of_item, references_of_items, references_of_body, AreDistinct}
use Rattle.tree_laws.proofs.Distinct.{back_distinct}
use Rattle.simple_form_laws.specs.Parts.{Scope, parts_of, parts_of_list, parts_of_items, parts_of_item}
use Rattle.simple_form_laws.specs.Forms.{element_places, places_in_item, numbered, numbered_list, numbered_items, numbered_item}
use Rattle.tree_graph.specs.Walks.{place_of_part}

-- each number stands once
abbrev pub AreApart : List ℕ → Type 0
AreApart [] = ⊤
AreApart (x ∷ xs) = (IsIn x xs → ⊥) × AreApart xs

apart_from : (xs : List ℕ) → AreDistinct xs → AreApart xs
apart_from [] d = tt
apart_from (x ∷ xs) d = (once, apart_from xs (back_distinct (x ∷ []) xs d))
  where
    once : IsIn x xs → ⊥
    once h =
        let c : Contains xs x = contained x xs h in
        let l = c.1 in
        let e = d x (0, omega arith, refl) (suc c.0, omega (arith, l), c.2) in
        omega (arith, e)

-- the first list is the second without some
data Thins : List ℕ → List ℕ → Type 0 where
  none : Thins [] []
  keep : {x : ℕ} {xs ys : List ℕ} → Thins xs ys → Thins (x ∷ xs) (x ∷ ys)
  skip : {y : ℕ} {xs ys : List ℕ} → Thins xs ys → Thins xs (y ∷ ys)

thins_all : (ys : List ℕ) → Thins [] ys
thins_all [] = none
thins_all (y ∷ ys) = skip (thins_all ys)

thins_append : {xs ys us vs : List ℕ} → Thins xs ys → Thins us vs → Thins (xs ++ us) (ys ++ vs)
thins_append none t = t
thins_append (keep w) t = keep (thins_append w t)
thins_append (skip w) t = skip (thins_append w t)

thins_in : {xs ys : List ℕ} (a : ℕ) → Thins xs ys → IsIn a xs → IsIn a ys
thins_in a none h = h
thins_in a (keep w) (inl e) = inl e
thins_in a (keep w) (inr h) = inr (thins_in a w h)
thins_in a (skip w) h = inr (thins_in a w h)

thins_apart : {xs ys : List ℕ} → Thins xs ys → AreApart ys → AreApart xs
thins_apart none a = a
thins_apart (keep w) a = ((λ h. a.0 (thins_in _ w h)), thins_apart w a.1)
thins_apart (skip w) a = thins_apart w a.1

module _ (places : List ℕ) where
  -- of the references' places those that stand in an include aren't parts'
  mutual
    places_of_parts : (k : ℕ) (s : Scope) (p : Pattern) → Thins (filter_map place_of_part (parts_of s (numbered places k p))) (references p)
    places_of_parts k s (full.element c p at) = places_of_parts (suc k) s p
    places_of_parts k s (full.attribute c p at) = places_of_parts k s p
    places_of_parts k s (full.group ps) = places_of_list k s ps
    places_of_parts k s (full.choice ps) = places_of_list k s ps
    places_of_parts k s (full.interleave ps) = places_of_list k s ps
    places_of_parts k s (full.optional p) = places_of_parts k s p
    places_of_parts k s (full.zero_or_more p) = places_of_parts k s p
    places_of_parts k s (full.one_or_more p) = places_of_parts k s p
    places_of_parts k s (full.list p at) = places_of_parts k s p
    places_of_parts k s (full.mixed p) = places_of_parts k s p
    places_of_parts k s (full.ref name at) = keep none
    places_of_parts k s (full.parent name at) = keep none
    places_of_parts k s full.empty = none
    places_of_parts k s full.any_text = none
    places_of_parts k s full.not_allowed = none
    places_of_parts k s (full.value of l) = none
    places_of_parts k s (full.data_type of xs) = none
    places_of_parts k s (full.data_except of xs p) = places_of_parts k s p
    places_of_parts k s (full.external l passed at) = none
    places_of_parts k s (full.grammar is) = places_of_items k (numbered_items places k is ∷ s) is

    places_of_list : (k : ℕ) (s : Scope) (ps : Patterns) → Thins (filter_map place_of_part (parts_of_list s (numbered_list places k ps))) (references_of_patterns ps)
    places_of_list k s no_pattern = none
    places_of_list k s (more_patterns p ps) =
        rw (filter_map-append place_of_part (parts_of s (numbered places k p)) (parts_of_list s (numbered_list places (k + length (element_places p)) ps)))
        (thins_append (places_of_parts k s p) (places_of_list (k + length (element_places p)) s ps))

    places_of_items : (k : ℕ) (s : Scope) (is : Items) → Thins (filter_map place_of_part (parts_of_items s (numbered_items places k is))) (references_of_items is)
    places_of_items k s no_item = none
    places_of_items k s (more_items i is) =
        rw (filter_map-append place_of_part (parts_of_item s (numbered_item places k i)) (parts_of_items s (numbered_items places (k + length (places_in_item i)) is)))
        (thins_append (places_of_item k s i) (places_of_items (k + length (places_in_item i)) s is))

    places_of_item : (k : ℕ) (s : Scope) (i : Item) → Thins (filter_map place_of_part (parts_of_item s (numbered_item places k i))) (references_of_item i)
    places_of_item k s (start m p at) = places_of_parts k s p
    places_of_item k s (define name m p at) = places_of_parts k s p
    places_of_item k s (div inner) = places_of_items k s inner
    places_of_item k s (include l passed inner at) = thins_all (references_of_items inner)

  body_references : (b : Body) → references_of_body b ≡ references (body_pattern b)
  body_references (full.pattern p) = refl
  body_references (full.items is) = refl

  pub places_apart : (k : ℕ) (s : Scope) (b : Body) → AreDistinct (references_of_body b) → AreApart (filter_map place_of_part (parts_of s (numbered places k (body_pattern b))))
  places_apart k s b d = thins_apart (places_of_parts k s (body_pattern b)) (apart_from (references (body_pattern b)) (subst AreDistinct (body_references b) d))

-- Two that have one number are one.
module _ {X : Type 0} (h : X → Option ℕ) where
  found : (xs : List X) (i : ℕ) (x : X) (a : ℕ) → slice_get xs i ≡ Some x → h x ≡ Some a → IsIn a (filter_map h xs)
  found [] i x a g e = absurd (cc)
  found (y ∷ xs) zero x a g e =
      let f : y ≡ x = cc in
      subst (λ o. IsIn a (cons_option o (filter_map h xs))) (sym (ap h f ∙ e)) (inl refl)
  found (y ∷ xs) (suc i) x a g e = go (h y) (found xs i x a g e)
    where
      go : (o : Option ℕ) → IsIn a (filter_map h xs) → IsIn a (cons_option o (filter_map h xs))
      go None k = k
      go (Some b) k = inr k

  pub one_of_number : (xs : List X) → AreApart (filter_map h xs) → (i j : ℕ) (x y : X) (a : ℕ) → slice_get xs i ≡ Some x → slice_get xs j ≡ Some y → h x ≡ Some a → h y ≡ Some a → i ≡ j
  one_of_number [] d i j x y a g f e k = absurd (cc)
  one_of_number (z ∷ xs) d zero zero x y a g f e k = refl
  one_of_number (z ∷ xs) d zero (suc j) x y a g f e k =
      let same : z ≡ x = cc in
      let first : h z ≡ Some a = ap h same ∙ e in
      let apart : AreApart (a ∷ filter_map h xs) = subst (λ o. AreApart (cons_option o (filter_map h xs))) first d in
      absurd (apart.0 (found xs j y a f k))
  one_of_number (z ∷ xs) d (suc i) zero x y a g f e k =
      let same : z ≡ y = cc in
      let first : h z ≡ Some a = ap h same ∙ k in
      let apart : AreApart (a ∷ filter_map h xs) = subst (λ o. AreApart (cons_option o (filter_map h xs))) first d in
      absurd (apart.0 (found xs i x a g e))
  one_of_number (z ∷ xs) d (suc i) (suc j) x y a g f e k = ap suc (one_of_number xs (rest (h z) d) i j x y a g f e k)
    where
      rest : (o : Option ℕ) → AreApart (cons_option o (filter_map h xs)) → AreApart (filter_map h xs)
      rest None w = w
      rest (Some b) w = w.1
