-- What the tests on depth find.
use Rattle.std.proofs.Common.{◌≡◌, ℕ, ◌+◌, ◌<◌, ◌≤◌, ◌⊎◌, inl, inr, Bool, get_or, List, Option, Some, slice_get, sym, ◌∙◌, ap, subst, arith}
use Rattle.std.proofs.lemmas.Option.{get_or_from_slice_get}
use Rattle.rng_model.specs.Classes.{Class}
use Rattle.rng_model.specs.Depths.{depth, class_depth}
use Rattle.simple_form_laws.specs.Forms.{new_number}
use Rattle.simple_form_laws.proofs.Kept.{in_its_place}
use Rattle.name_classes.specs.Views.{class_of}
use Rattle.name_classes.specs.declared.class.NameClass.{NameClass}
use Rattle.schema_graph.specs.declared.graph.Graph.{Graph}
use Rattle.pattern_intern.specs.Stored.{Stored, tree_at}
use Rattle.pattern_intern.specs.declared.id.PatternId.{PatternId}
use Rattle.pattern_forms.specs.Outcomes.{HasForm}
use Rattle.kept_elements.specs.Wanted.{HasContent}
use Rattle.kept_elements.specs.Marking.{IsMarked, HasMark, AreWanted}
use Rattle.kept_elements.specs.Outcomes.{AreKept, IsDeep, IsDeepElement, IsDeepAttribute}
use Rattle.kept_elements.specs.Depths.{NoneBelow, IsDeepAt}
use Rattle.kept_elements.proofs.Contents.{same_content}
use Rattle.kept_elements.proofs.Built.{member}
use Rattle.kept_elements.proofs.Lists.{same_or_not}

pub none_first : (P : ℕ → Type 0) → NoneBelow P 0
none_first P = record { none = λ j l p. absurd (omega arith) }

pub none_more : (P : ℕ → Type 0) (i : ℕ) → NoneBelow P i → (P i → ⊥) → NoneBelow P (i + 1)
none_more P i h f = record { none = λ j l p. go j l p (same_or_not j i) }
  where
    go : (j : ℕ) → j < i + 1 → P j → (j ≡ i) ⊎ (j ≡ i → ⊥) → ⊥
    go j l p (inl e) = f (subst P e p)
    go j l p (inr n) = h.none j (less n) p
      where
        less : (j ≡ i → ⊥) → j < i
        less n = omega arith

module _ (g : Graph) (pool : Stored) (forms : List (Option PatternId)) where
  module _ (n : ℕ) (d : NameClass) (id : PatternId) (h : HasContent g forms n d id) where
    pub deep_content : 1024 < depth (tree_at pool id.0) → IsDeepElement g pool forms n
    deep_content l = (d, id, h, inl l)

    pub deep_class : (c : Class) → c ≡ class_of d → 1024 < class_depth c → IsDeepElement g pool forms n
    deep_class c e l = (d, id, h, inr (subst (λ x. 1024 < class_depth x) e l))

    pub class_is_deep : (c : Class) → c ≡ class_of d → depth (tree_at pool id.0) ≤ 1024 → IsDeepElement g pool forms n → 1024 < class_depth c
    class_is_deep c e l (d', id', h', inl m) =
        let q = subst (λ x. 1024 < depth (tree_at pool x.0)) (same_content g forms n d' d id' id h' h).1 m in absurd (omega arith)
    class_is_deep c e l (d', id', h', inr m) = subst (λ x. 1024 < class_depth x) (ap class_of (same_content g forms n d' d id' id h' h).0 ∙ sym e) m

  -- the element of a place
  pub not_deep_at : (kept : List ℕ) (i d : ℕ) → (IsDeepElement g pool forms (get_or kept i d) → ⊥) → IsDeepAt g pool forms kept i → ⊥
  not_deep_at kept i d f (m, q, e) = f (subst (IsDeepElement g pool forms) (sym (get_or_from_slice_get kept i m d q)) e)

  module _ (marks : List Bool) (kept : List ℕ) (k : AreKept g pool forms kept) (w : AreWanted g pool forms marks) where
    pub root_deep : (id : PatternId) → HasForm forms g.root id → 1024 < depth (tree_at pool id.0) → IsDeep g pool forms
    root_deep id f l = inl (id, f, l)

    pub elements_deep : (i : ℕ) (n : ℕ) → slice_get kept i ≡ Some n → IsDeepElement g pool forms n → IsDeep g pool forms
    elements_deep i n e d = inr (inl (n, (k.each n).0 (member kept i n e), d))

    pub attributes_deep : (i : ℕ) → IsMarked marks i → IsDeepAttribute (tree_at pool i) → IsDeep g pool forms
    attributes_deep i m d = inr (inr (tree_at pool i, w.sound i m, d))

    -- where all three are tested
    pub deep_found : (A : Type 0) (id : PatternId) → HasForm forms g.root id → (1024 < depth (tree_at pool id.0) → A) → ((i n : ℕ) → slice_get kept i ≡ Some n → IsDeepElement g pool forms n → A) →
        ((i : ℕ) → IsMarked marks i → IsDeepAttribute (tree_at pool i) → A) → IsDeep g pool forms → A
    deep_found A id f a b c (inl (x, h, l)) = a (subst (λ y. 1024 < depth (tree_at pool y.0)) (same x h) l)
      where
        same : (x : PatternId) → HasForm forms g.root x → x ≡ id
        same x h = let e : Some (Some x) ≡ Some (Some id) = sym h ∙ f in cc
    deep_found A id f a b c (inr (inl (n, v, d))) = b (new_number kept n) n (in_its_place kept n k.ascending ((k.each n).1 v)) d
    deep_found A id f a b c (inr (inr (p, v, d))) = go (w.complete p v)
      where
        go : HasMark pool marks p → A
        go (i, m, e) = c i m (subst IsDeepAttribute (sym e) d)
