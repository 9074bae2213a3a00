-- What is too deep in the forms is too deep in the schema that is built of them.
use Rattle.std.proofs.Common.{◌≡◌, ℕ, zero, suc, ◌<◌, inl, inr, List, [], ◌∷◌, Option, Some, length, slice_get, refl, sym, ◌∙◌, ap, subst, arith}
use Rattle.std.proofs.lemmas.Option.{same_Some, slice_get_within}
use Rattle.rng_model.specs.Classes.{Class}
use Rattle.rng_model.specs.Depths.{depth, class_depth}
use Rattle.rng_model.specs.Inside.{Within, InSchema, IsAttributeOf}
use Rattle.rng_model.specs.Patterns.{Pattern, Schema, Definition, Defines, not_allowed, empty, text, ref, value, data_type, data_except, attribute, one_or_more, choice, group, interleave, after}
use Rattle.simple_form_laws.specs.Faults.{IsTooDeep}
use Rattle.simple_form_laws.specs.Forms.{new_number, renumbered}
use Rattle.simple_form_laws.proofs.Kept.{in_its_place}
use Rattle.simple_form_laws.proofs.Wellformed.{depth-renumbered}
use Rattle.name_classes.specs.Views.{class_of}
use Rattle.name_classes.specs.declared.class.NameClass.{NameClass}
use Rattle.schema_graph.specs.declared.graph.Graph.{Graph}
use Rattle.pattern_intern.specs.Stored.{Stored, tree_at}
use Rattle.pattern_intern.specs.declared.id.PatternId.{PatternId}
use Rattle.pattern_forms.specs.Outcomes.{HasForm}
use Rattle.kept_elements.specs.Wanted.{IsPartOf, HasContent, IsWanted, from_root, from_part, from_content}
use Rattle.kept_elements.specs.Outcomes.{AreKept, IsDeep, IsDeepElement, IsDeepAttribute}
use Rattle.kept_elements.specs.Built.{IsBuiltDefinition, IsBuilt}
use Rattle.kept_elements.proofs.Contents.{same_content}
use Rattle.kept_elements.proofs.Built.{member}

pub there : {X : Type 0} (xs : List X) (k : ℕ) → k < length xs → (x : X) × (slice_get xs k ≡ Some x)
there [] k l = absurd (omega arith)
there (x ∷ xs) zero l = (x, refl)
there (x ∷ xs) (suc k) l = there xs k (omega arith)

module _ (h : ℕ → ℕ) (c : Class) where
  -- an attribute of the class stands in the pattern with new numbers
  abbrev In : Pattern → Type 0
  In p = Within (IsAttributeOf c) (renumbered h p)

  within_part : (p q : Pattern) → In p → IsPartOf p q → In q
  within_part p (data_except k e) w i = inr (subst In i w)
  within_part p (attribute d e) w i = inr (subst In i w)
  within_part p (one_or_more e) w i = inr (subst In i w)
  within_part p (choice a b) w (inl i) = inl (subst In i w)
  within_part p (choice a b) w (inr i) = inr (subst In i w)
  within_part p (group a b) w (inl i) = inr (inl (subst In i w))
  within_part p (group a b) w (inr i) = inr (inr (subst In i w))
  within_part p (interleave a b) w (inl i) = inr (inl (subst In i w))
  within_part p (interleave a b) w (inr i) = inr (inr (subst In i w))
  within_part p (after a b) w (inl i) = inr (inl (subst In i w))
  within_part p (after a b) w (inr i) = inr (inr (subst In i w))
  within_part p q w i = absurd i

  module _ (g : Graph) (pool : Stored) (forms : List (Option PatternId)) where
    abbrev Found : Type 0
    Found = (x : Pattern) × IsWanted g pool forms (attribute c x)

    leaf : {A : Type 0} (p : Pattern) → ((y : Pattern) → p ≡ attribute c y → ⊥) → IsAttributeOf c p → A
    leaf p f (y, e) = absurd (f y e)

    here : (d : Class) (e : Pattern) → IsWanted g pool forms (attribute d e) → IsAttributeOf c (attribute d (renumbered h e)) → Found
    here d e w (y, q) = (e, subst (λ z. IsWanted g pool forms (attribute z e)) (same y q) w)
      where
        same : (y : Pattern) → attribute d (renumbered h e) ≡ attribute c y → d ≡ c
        same y q = cc

    attribute_wanted : (q : Pattern) → IsWanted g pool forms q → In q → Found
    attribute_wanted not_allowed w i = leaf not_allowed (λ y e. cc) i
    attribute_wanted empty w i = leaf empty (λ y e. cc) i
    attribute_wanted text w i = leaf text (λ y e. cc) i
    attribute_wanted (ref n) w i = leaf (ref (h n)) (λ y e. cc) i
    attribute_wanted (value k t) w i = leaf (value k t) (λ y e. cc) i
    attribute_wanted (data_type k) w i = leaf (data_type k) (λ y e. cc) i
    attribute_wanted (data_except k e) w (inl i) = leaf (data_except k (renumbered h e)) (λ y q. cc) i
    attribute_wanted (data_except k e) w (inr i) = attribute_wanted e (from_part w refl) i
    attribute_wanted (attribute d e) w (inl i) = here d e w i
    attribute_wanted (attribute d e) w (inr i) = attribute_wanted e (from_part w refl) i
    attribute_wanted (one_or_more e) w (inl i) = leaf (one_or_more (renumbered h e)) (λ y q. cc) i
    attribute_wanted (one_or_more e) w (inr i) = attribute_wanted e (from_part w refl) i
    attribute_wanted (choice a b) w (inl i) = attribute_wanted a (from_part w (inl refl)) i
    attribute_wanted (choice a b) w (inr i) = attribute_wanted b (from_part w (inr refl)) i
    attribute_wanted (group a b) w (inl i) = leaf (group (renumbered h a) (renumbered h b)) (λ y q. cc) i
    attribute_wanted (group a b) w (inr (inl i)) = attribute_wanted a (from_part w (inl refl)) i
    attribute_wanted (group a b) w (inr (inr i)) = attribute_wanted b (from_part w (inr refl)) i
    attribute_wanted (interleave a b) w (inl i) = leaf (interleave (renumbered h a) (renumbered h b)) (λ y q. cc) i
    attribute_wanted (interleave a b) w (inr (inl i)) = attribute_wanted a (from_part w (inl refl)) i
    attribute_wanted (interleave a b) w (inr (inr i)) = attribute_wanted b (from_part w (inr refl)) i
    attribute_wanted (after a b) w (inl i) = leaf (after (renumbered h a) (renumbered h b)) (λ y q. cc) i
    attribute_wanted (after a b) w (inr (inl i)) = attribute_wanted a (from_part w (inl refl)) i
    attribute_wanted (after a b) w (inr (inr i)) = attribute_wanted b (from_part w (inr refl)) i

module _ (g : Graph) (pool : Stored) (forms : List (Option PatternId)) (kept : List ℕ) (s : Schema) (k : AreKept g pool forms kept) (b : IsBuilt g pool forms kept s) where
  abbrev r : Pattern → Pattern
  r = renumbered (new_number kept)

  same_root : (id : PatternId) → HasForm forms g.root id → id ≡ b.root
  same_root id f = let e : Some (Some id) ≡ Some (Some b.root) = sym f ∙ b.form in cc

  start_is : (id : PatternId) → HasForm forms g.root id → s.start ≡ r (tree_at pool id.0)
  start_is id f = b.start ∙ ap (λ x. r (tree_at pool x.0)) (sym (same_root id f))

  record Entry (n : ℕ) (d : ℕ) (e : Definition) : Type 0 where
    is : Defines s d e
    built : IsBuiltDefinition g pool forms kept n e

  entry : (n : ℕ) → IsWanted g pool forms (ref n) → (d : ℕ) × (e : Definition) × Entry n d e
  entry n w =
      let i = in_its_place kept n k.ascending ((k.each n).1 w) in
      let t = b.elements.are (new_number kept n) n i in
      (new_number kept n, t.0, record { is = t.1; built = t.2 })

  number_of : (d : ℕ) (e : Definition) → Defines s d e → (n : ℕ) × IsWanted g pool forms (ref n) × IsBuiltDefinition g pool forms kept n e
  number_of d e q =
      let t = there kept d (subst (λ x. d < x) b.elements.each (slice_get_within s.elements d e q)) in
      let u = b.elements.are d t.0 t.1 in
      (t.0, (k.each t.0).0 (member kept d t.0 t.1), subst (IsBuiltDefinition g pool forms kept t.0) (same_Some u.0 e (sym u.1 ∙ q)) u.2)

  content_is : (n : ℕ) (e : Definition) (d : NameClass) (id : PatternId) → IsBuiltDefinition g pool forms kept n e → HasContent g forms n d id → (e.content ≡ r (tree_at pool id.0)) × (class_of d ≡ e.class)
  content_is n e d id x c =
      let q = same_content g forms n d x.class id x.form c x.is in
      (x.content ∙ ap (λ y. r (tree_at pool y.0)) (sym q.1), ap class_of q.0 ∙ sym x.same)

  deeper : (p q : Pattern) → p ≡ r q → 1024 < depth q → 1024 < depth p
  deeper p q e l = subst (λ n. 1024 < n) (sym (ap depth e ∙ depth-renumbered (new_number kept) q)) l

  back : (p q : Pattern) → p ≡ r q → 1024 < depth p → 1024 < depth q
  back p q e l = subst (λ n. 1024 < n) (ap depth e ∙ depth-renumbered (new_number kept) q) l

  in_schema : {p : Pattern} → IsWanted g pool forms p → (c : Class) → In (new_number kept) c p → InSchema (IsAttributeOf c) s
  in_schema (from_root {id = id} f e) c i = inl (subst (Within (IsAttributeOf c)) (ap r e ∙ sym (start_is id f)) i)
  in_schema {p} (from_part {q = q} w f) c i = in_schema w c (within_part (new_number kept) c p q i f)
  in_schema (from_content {n = n} {d = d} {id = id} w f e) c i =
      let t = entry n w in
      inr (t.0, t.1, t.2.is, subst (Within (IsAttributeOf c)) (ap r e ∙ sym (content_is n t.1 d id t.2.built f).0) i)

  deep_attribute : (p : Pattern) → IsWanted g pool forms p → IsDeepAttribute p → IsTooDeep s
  deep_attribute (attribute c x) w l = inr (inr (c, inr (in_schema w c (inl (r x, refl))), l))
  deep_attribute p w l = absurd l

  deep_element : (n : ℕ) → IsWanted g pool forms (ref n) → IsDeepElement g pool forms n → IsTooDeep s
  deep_element n w (d, id, c, inl l) =
      let t = entry n w in
      inr (inl (t.0, t.1, t.2.is, deeper t.1.content (tree_at pool id.0) (content_is n t.1 d id t.2.built c).0 l))
  deep_element n w (d, id, c, inr l) =
      let t = entry n w in
      inr (inr (class_of d, inl (t.0, t.1, t.2.is, (content_is n t.1 d id t.2.built c).1), l))

  pub deep_schema : IsDeep g pool forms → IsTooDeep s
  deep_schema (inl (id, f, l)) = inl (deeper s.start (tree_at pool id.0) (start_is id f) l)
  deep_schema (inr (inl (n, w, l))) = deep_element n w l
  deep_schema (inr (inr (p, w, l))) = deep_attribute p w l

  schema_class : (c : Class) → 1024 < class_depth c → InSchema (IsAttributeOf c) s → IsDeep g pool forms
  schema_class c l (inl i) =
      let t = attribute_wanted (new_number kept) c g pool forms (tree_at pool b.root.0) (from_root b.form refl) (subst (Within (IsAttributeOf c)) b.start i) in
      inr (inr (attribute c t.0, t.1, l))
  schema_class c l (inr (d, e, q, i)) =
      let u = number_of d e q in
      let t = attribute_wanted (new_number kept) c g pool forms (tree_at pool u.2.form.0) (from_content u.1 u.2.is refl) (subst (Within (IsAttributeOf c)) u.2.content i) in
      inr (inr (attribute c t.0, t.1, l))

  pub schema_deep : IsTooDeep s → IsDeep g pool forms
  schema_deep (inl l) = inl (b.root, b.form, back s.start (tree_at pool b.root.0) b.start l)
  schema_deep (inr (inl (d, e, q, l))) =
      let u = number_of d e q in
      inr (inl (u.0, u.1, (u.2.class, u.2.form, u.2.is, inl (back e.content (tree_at pool u.2.form.0) u.2.content l))))
  schema_deep (inr (inr (c, inl (d, e, q, f), l))) =
      let u = number_of d e q in
      inr (inl (u.0, u.1, (u.2.class, u.2.form, u.2.is, inr (subst (λ x. 1024 < class_depth x) (f ∙ u.2.same) l))))
  schema_deep (inr (inr (c, inr i, l))) = schema_class c l i
