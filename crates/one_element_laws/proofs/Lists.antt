-- The universe and the atoms of the schema.
use Rattle.std.proofs.Common.{◌≡◌, ◌⊎◌, ◌↔◌, inl, inr, ℕ, suc, zero, List, [], ◌∷◌, refl, ap, sym, ◌∙◌, false, true, IsTrue, arith, codes, Contains}
use Rattle.std.specs.List.Sorted.{IsStrictlySortedBy}
use Rattle.std.specs.BTreeSet.{insert_key}
use Rattle.rng_model.specs.Texts.{Text}
use Rattle.rng_model.specs.Names.{Name, name_cmp}
use Rattle.rng_model.specs.Classes.{Class, one}
use Rattle.rng_model.specs.Patterns.{Pattern, Definition, Defines, ref, empty, value}
use Rattle.rng_model.specs.Atoms.{Literals, IsTaken, IsAtom, AreAtoms}
use Rattle.rng_model.specs.Fresh.{IsFirstFree}
use Rattle.rng_model.specs.Inside.{InSchema, IsAttributeOf, InAttribute}
use Rattle.rng_model.specs.Universe.{Lists, AreLists, AreNames, AreLiterals, IsElementClass, IsAttributeClass, IsMentioned, IsMentionedSpace, InUniverse, IsOfKind}
use Rattle.rng_model.proofs.Larger.{among-first}
use Rattle.rng_model.proofs.Orders.{name_order, name_cmp-same}
use Rattle.one_element_laws.specs.OneElement.{one_element}
use Rattle.one_element_laws.proofs.FirstFree.{first-among, one_first, stem_first, free_beside}
use Rattle.one_element_laws.proofs.Sorting.{inserted_ascends, inserted_to, inserted_from}

-- nothing stands in the empty list, and one thing in a list of one
in_none : {X : Type 0} (x : X) → Contains {X = X} [] x → ⊥
in_none x (k, lt, e) = omega arith

in_one : {X : Type 0} (x y : X) → Contains (x ∷ []) y → x ≡ y
in_one x y (zero, lt, e) = e
in_one x y (suc k, lt, e) = absurd (omega arith)

same_name_by : (n m : Name) → n.ns ≡ m.ns → n.local ≡ m.local → n ≡ m
same_name_by n m p q = λ i. record { ns = p i; local = q i }

no_literals : Literals
no_literals = record { members = []; has_empty = false; kinds = [] }

t_free : IsTaken no_literals (codes "t") → ⊥
unfolding no_literals
t_free (k, t, h, same) = in_none (k, t) h

one_atom : AreAtoms no_literals [] (codes "t" ∷ [])
unfolding IsStrictlySortedBy no_literals
one_atom = record { ascending = (tt, tt); each = λ x. (to x, from x) }
  where
    to : (x : Text) → Contains (codes "t" ∷ []) x → IsAtom no_literals x ⊎ Contains [] x
    to x h = let e = in_one (codes "t") x h in rw (← e) (inl (inr (inr (inr (inr (stem_first _ (codes "t") t_free))))))

    from : (x : Text) → IsAtom no_literals x ⊎ Contains [] x → Contains (codes "t" ∷ []) x
    from x (inl (inl h)) = absurd (in_none _ h)
    from x (inl (inr (inl (n, inl (t, h, same), spaced)))) = absurd (in_none _ h)
    from x (inl (inr (inl (n, inr (h, same), spaced)))) = absurd (never h)
      where
        never : IsTrue false → ⊥
        never e = cc
    from x (inl (inr (inr (inl (k, t, h, a, b, e))))) = absurd (in_none _ h)
    from x (inl (inr (inr (inr (inl (k, h, rest)))))) = absurd (in_none k h)
    from x (inl (inr (inr (inr (inr free))))) = (0, omega arith, one_first _ (codes "t") _ x (stem_first _ (codes "t") t_free) free)
    from x (inr h) = absurd (in_none x h)

module _ (name : Name) where
  abbrev definition : Definition
  definition = record { class = one name; content = empty }

  -- what the classes of the element mention
  abbrev Elements : Class → Type 0
  Elements = IsElementClass (one_element name)

  one_definition : (d : ℕ) (e : Definition) → Defines (one_element name) d e → e ≡ definition
  one_definition zero e h = cc
  one_definition (suc d) e h = cc

  element_class : (c : Class) → Elements c → c ≡ one name
  element_class c (d, e, h, same) = same ∙ ap (λ (x : Definition). x.class) (one_definition d e h)

  is_class : Elements (one name)
  is_class = (0, definition, refl, refl)

  mentioned : (n : Name) → IsMentioned Elements n → n ≡ name
  mentioned n (c, is, names) = let same = element_class c is in rw same at names

  only_local : (x : Text) → IsMentioned Elements (record { ns = name.ns; local = x }) ↔ (x ≡ name.local)
  only_local x = (λ h. ap (λ (n : Name). n.local) (mentioned _ h), λ e. (one name, is_class, λ i. record { ns = name.ns; local = e i }))

  only_space : (u : Text) → IsMentionedSpace Elements u ↔ (u ≡ name.ns)
  only_space u = (λ h. to h, λ e. (one name, is_class, e))
    where
      to : IsMentionedSpace Elements u → u ≡ name.ns
      to (c, is, names) = let same = element_class c is in rw same at names

  no_pattern : (K : Pattern → Type 0) → (K (ref 0) → ⊥) → (K empty → ⊥) → InSchema K (one_element name) → ⊥
  no_pattern K a b (inl h) = a h
  no_pattern K a b (inr (d, e, h, w)) = let same = one_definition d e h in b (rw same at w)

  no_attribute : (c : Class) → IsAttributeClass (one_element name) c → ⊥
  no_attribute c = no_pattern (IsAttributeOf c) (λ h. let e = h.1 in cc) (λ h. let e = h.1 in cc)

  are_no_literals : AreLiterals (one_element name) no_literals
  unfolding no_literals
  are_no_literals = record {
    each = λ x. (λ h. absurd (in_none x h), λ h. absurd (no_pattern (λ p. p ≡ value x.0 x.1) (λ e. cc) (λ e. cc) h));
    has_empty = (λ e. absurd (never e), λ h. absurd (no_pattern (InAttribute (λ p. p ≡ empty)) (λ f. f) (λ f. f) h));
    kinds = λ k. (λ h. absurd (in_none k h), λ h. absurd (no_pattern (IsOfKind k) (λ f. f) (λ f. f) h));
  }
    where
      never : false ≡ true → ⊥
      never e = cc

  abbrev stranger : Name
  stranger = record { ns = codes "urn:x"; local = codes "x" }

  -- the fresh local name of the namespace and the fresh namespace
  module _ (local space : Text) (is_local : IsFirstFree (λ x. IsMentioned Elements (record { ns = name.ns; local = x })) (codes "x") local) (is_space : IsFirstFree (IsMentionedSpace Elements) (codes "urn:x") space) where
    abbrev sibling : Name
    sibling = record { ns = name.ns; local = local }

    abbrev outsider : Name
    outsider = record { ns = space; local = codes "x" }

    abbrev elements : List Name
    elements = insert_key name_cmp (insert_key name_cmp (name ∷ []) sibling) outsider

    elements_ascend : IsStrictlySortedBy name_cmp elements
    unfolding IsStrictlySortedBy
    elements_ascend =
        inserted_ascends name_cmp name_order name_cmp-same (insert_key name_cmp (name ∷ []) sibling) outsider
        (inserted_ascends name_cmp name_order name_cmp-same (name ∷ []) sibling (tt, tt))

    element_to : (n : Name) → Contains elements n → (outsider ≡ n) ⊎ (sibling ≡ n) ⊎ (name ≡ n)
    element_to n h = go (inserted_to name_cmp name_order name_cmp-same (insert_key name_cmp (name ∷ []) sibling) outsider n h)
      where
        last : (sibling ≡ n) ⊎ Contains (name ∷ []) n → (outsider ≡ n) ⊎ (sibling ≡ n) ⊎ (name ≡ n)
        last (inl e) = inr (inl e)
        last (inr c) = inr (inr (in_one name n c))

        go : (outsider ≡ n) ⊎ Contains (insert_key name_cmp (name ∷ []) sibling) n → (outsider ≡ n) ⊎ (sibling ≡ n) ⊎ (name ≡ n)
        go (inl e) = inl e
        go (inr c) = last (inserted_to name_cmp name_order name_cmp-same (name ∷ []) sibling n c)

    element_from : (n : Name) → (outsider ≡ n) ⊎ (sibling ≡ n) ⊎ (name ≡ n) → Contains elements n
    element_from n (inl e) = inserted_from name_cmp name_order name_cmp-same (insert_key name_cmp (name ∷ []) sibling) outsider n (inl e)
    element_from n (inr h) =
        inserted_from name_cmp name_order name_cmp-same (insert_key name_cmp (name ∷ []) sibling) outsider n
        (inr (inserted_from name_cmp name_order name_cmp-same (name ∷ []) sibling n (go h)))
      where
        go : (sibling ≡ n) ⊎ (name ≡ n) → (sibling ≡ n) ⊎ Contains (name ∷ []) n
        go (inl e) = inl e
        go (inr e) = inr (0, omega arith, e)

    element_names : AreNames Elements 1 elements
    element_names = record { ascending = elements_ascend; each = λ n. (λ h. to n (element_to n h), λ h. element_from n (from n h)) }
      where
        to : (n : Name) → (outsider ≡ n) ⊎ (sibling ≡ n) ⊎ (name ≡ n) → InUniverse Elements 1 n
        to n (inl e) = rw (← e) (inr (inr (is_space, (0, omega arith, refl))))
        to n (inr (inl e)) = rw (← e) (inr (inl ((only_space name.ns).1 refl, among-first _ _ _ 1 (omega arith) is_local)))
        to n (inr (inr e)) = rw (← e) (inl (one name, is_class, refl))

        from : (n : Name) → InUniverse Elements 1 n → (outsider ≡ n) ⊎ (sibling ≡ n) ⊎ (name ≡ n)
        from n (inl h) = inr (inr (sym (mentioned n h)))
        from n (inr (inl (h, free))) =
            let e : n.ns ≡ name.ns = (only_space n.ns).0 h in
            inr (inl (same_name_by sibling n (sym e) (one_first _ (codes "x") local n.local is_local (first-among _ _ _ (rw e at free)))))
        from n (inr (inr (free, (zero, few, e)))) = inl (same_name_by outsider n (one_first _ (codes "urn:x") space n.ns is_space free) (sym e))
        from n (inr (inr (free, (suc k, few, e)))) = absurd (omega arith)

  attribute_names : AreNames (IsAttributeClass (one_element name)) 1 (stranger ∷ [])
  unfolding IsStrictlySortedBy
  attribute_names = record { ascending = (tt, tt); each = λ n. (to n, from n) }
    where
      never_space : (u : Text) → IsMentionedSpace (IsAttributeClass (one_element name)) u → ⊥
      never_space u (c, is, names) = no_attribute c is

      to : (n : Name) → Contains (stranger ∷ []) n → InUniverse (IsAttributeClass (one_element name)) 1 n
      to n h = let e = in_one stranger n h in rw (← e) (inr (inr (stem_first _ (codes "urn:x") (never_space _), (0, omega arith, refl))))

      from : (n : Name) → InUniverse (IsAttributeClass (one_element name)) 1 n → Contains (stranger ∷ []) n
      from n (inl (c, is, names)) = absurd (no_attribute c is)
      from n (inr (inl ((c, is, names), free))) = absurd (no_attribute c is)
      from n (inr (inr (free, (zero, few, e)))) =
          (0, omega arith, same_name_by stranger n (one_first _ (codes "urn:x") _ n.ns (stem_first _ (codes "urn:x") (never_space _)) free) (sym e))
      from n (inr (inr (free, (suc k, few, e)))) = absurd (omega arith)

  pub lists_of_one : (u : Lists) × AreLists (one_element name) 1 [] u
  lists_of_one =
      let l = free_beside (λ x. IsMentioned Elements (record { ns = name.ns; local = x })) (codes "x") name.local only_local in
      let s = free_beside (IsMentionedSpace Elements) (codes "urn:x") name.ns only_space in (
        record { elements = elements l.0 s.0 l.1 s.1; attributes = stranger ∷ []; atoms = codes "t" ∷ [] },
        record {
          elements = element_names l.0 s.0 l.1 s.1;
          attributes = attribute_names;
          literals = no_literals;
          are_literals = are_no_literals;
          atoms = one_atom;
        },
      )
