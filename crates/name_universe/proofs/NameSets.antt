-- Sets and maps of names.
use Rattle.std.proofs.Common.{◌≡◌, ℕ, zero, suc, ◌+◌, ◌<◌, ◌⊎◌, inl, inr, ◌↔◌, List, [], ◌∷◌, ◌++◌, length, refl, sym, ◌∙◌, ap, subst, Bool, true, false, cond, arith, Contains, IsTrue, Some, None, Option, IsSome}
use Rattle.std.specs.declared.cmp.Ordering.{Ordering}
use Rattle.std.specs.Cmp.{IsTotalOrder, Equal-is, tied_itself}
use Rattle.std.proofs.lemmas.Map.Lookups.{CmpEqualImpliesEq}
use Rattle.std.specs.BTreeSet as set
use Rattle.std.specs.BTreeSet.{BTreeSet}
use Rattle.std.specs.BTreeMap as tree
use Rattle.std.specs.BTreeMap.{BTreeMap, is_at}
use Rattle.std.proofs.lemmas.List.Elements.{Contains-append_left, Contains-append_right, Contains-append_cases}
use Rattle.std.proofs.lemmas.Map.Views.{btree_set_contains_iff}
use Rattle.rng_model.specs.Names.{Name, name_cmp}
use Rattle.rng_model.proofs.Orders.{name_order, name_cmp-same}
use Rattle.text_atoms.proofs.Members.{member_first, member_later, member_cases, member_none}
use Rattle.name_universe.specs.declared.origin.Origin.{Origin}
use Rattle.name_universe.specs.Sets.{Adds, Puts, origin_in}

-- nothing more
pub adds_nil : (X : Type 0) (old : List X) → Adds X old old []
adds_nil X old = record { each = λ x. (inl, λ h. elim h [ inl k ↦ k | inr k ↦ absurd (member_none x k) ]) }

-- some and then others
pub adds_append : (X : Type 0) (old mid new xs ys : List X) → Adds X old mid xs → Adds X mid new ys → Adds X old new (xs ++ ys)
adds_append X old mid new xs ys a b = record { each = λ x. (to x, from x) }
  where
    to : (x : X) → Contains new x → Contains old x ⊎ Contains (xs ++ ys) x
    to x h = elim ((b.each x).0 h) [
      | inl k ↦ elim ((a.each x).0 k) [ inl j ↦ inl j | inr j ↦ inr (Contains-append_left xs ys x j) ]
      | inr k ↦ inr (Contains-append_right xs ys x k)
    ]

    from : (x : X) → Contains old x ⊎ Contains (xs ++ ys) x → Contains new x
    from x (inl h) = (b.each x).1 (inl ((a.each x).1 (inl h)))
    from x (inr h) = elim (Contains-append_cases xs ys x h) [
      | inl k ↦ (b.each x).1 (inl ((a.each x).1 (inr k)))
      | inr k ↦ (b.each x).1 (inr k)
    ]

module _ {X : Type 0} {R : X → X → Ordering} (order : IsTotalOrder R) (exact : CmpEqualImpliesEq R) where
  pub is_at-same : (x : X) → is_at (R x) x ≡ true
  is_at-same x = (Equal-is (R x x)).1 (tied_itself order x)

  pub is_at-exact : (x y : X) → is_at (R x) y ≡ true → x ≡ y
  is_at-exact x y e = exact x y ((Equal-is (R x y)).0 e)

  -- what the test of a set says
  pub held : (s : BTreeSet X) (x : X) → true ≡ set.contains R s x → Contains s.keys x
  held s x e = (btree_set_contains_iff order exact s x).0 (sym e)

  pub not_held : (s : BTreeSet X) (x : X) → false ≡ set.contains R s x → Contains s.keys x → ⊥
  not_held s x e h = let f : true ≡ false = sym ((btree_set_contains_iff order exact s x).1 h) ∙ sym e in cc

  -- one that is there
  pub adds_held : (s : BTreeSet X) (k : X) → true ≡ set.contains R s k → Adds X s.keys s.keys (k ∷ [])
  adds_held s k e = record { each = λ x. (inl, λ h. elim h [ inl j ↦ j | inr j ↦ only x (member_cases k x [] j) ]) }
    where
      only : (x : X) → (k ≡ x) ⊎ Contains [] x → Contains s.keys x
      only x (inl same) = subst (Contains s.keys) same (held s k e)
      only x (inr none) = absurd (member_none x none)

  -- one that is inserted
  pub adds_one : (s n : BTreeSet X) (k : X) → set.Updates R s n k true → Adds X s.keys n.keys (k ∷ [])
  adds_one s n k updates = record { each = λ x. (to x, from x) }
    where
      old : (x : X) → IsTrue (set.contains R s x) ↔ Contains s.keys x
      old x = btree_set_contains_iff order exact s x

      new : (x : X) → IsTrue (set.contains R n x) ↔ Contains n.keys x
      new x = btree_set_contains_iff order exact n x

      read : (x : X) (b : Bool) → is_at (R k) x ≡ b → cond b true (set.contains R s x) ≡ true → Contains s.keys x ⊎ Contains (k ∷ []) x
      read x true e h = inr (subst (Contains (k ∷ [])) (is_at-exact k x e) (member_first k []))
      read x false e h = inl ((old x).0 h)

      to : (x : X) → Contains n.keys x → Contains s.keys x ⊎ Contains (k ∷ []) x
      to x h = read x (is_at (R k) x) refl (sym (updates.0 x) ∙ (new x).1 h)

      write : (x : X) (b : Bool) → is_at (R k) x ≡ b → Contains s.keys x ⊎ ((k ≡ x) ⊎ Contains [] x) → cond b true (set.contains R s x) ≡ true
      write x true e h = refl
      write x false e (inl h) = (old x).1 h
      write x false e (inr (inl same)) = let other : true ≡ false = sym (is_at-same k) ∙ ap (is_at (R k)) same ∙ e in cc
      write x false e (inr (inr none)) = absurd (member_none x none)

      from : (x : X) → Contains s.keys x ⊎ Contains (k ∷ []) x → Contains n.keys x
      from x (inl h) = (new x).0 (updates.0 x ∙ write x (is_at (R k) x) refl (inl h))
      from x (inr h) = (new x).0 (updates.0 x ∙ write x (is_at (R k) x) refl (inr (member_cases k x [] h)))

-- the maps from names
abbrev pub Map : Type 0
Map = Name → Option Origin

pub some_of : {X : Type 0} (o : Option X) → IsSome o → (x : X) × (o ≡ Some x)
some_of None h = absurd (cc)
some_of (Some x) h = (x, refl)

pub is_some_at : {X : Type 0} (o : Option X) (x : X) → o ≡ Some x → IsSome o
is_some_at o x e = rw e refl

pub puts_none : (f : Map) (o : Origin) → Puts f f o (λ n. ⊥)
puts_none f o = record { gives = λ n p e. inl e; kept = λ n h. h; given = λ n h. absurd h }

-- of names that are said alike
pub puts_as : (f g : Map) (o : Origin) (G H : Name → Type 0) → ((n : Name) → G n → H n) → ((n : Name) → H n → G n) → Puts f g o G → Puts f g o H
puts_as f g o G H to from p = record {
  gives = λ n q e. elim (p.gives n q e) [ inl k ↦ inl k | inr (same, h) ↦ inr (same, to n h) ];
  kept = p.kept;
  given = λ n h. p.given n (from n h);
}

-- some and then others
pub puts_more : (f g h : Map) (o : Origin) (G H : Name → Type 0) → Puts f g o G → Puts g h o H → Puts f h o (λ n. G n ⊎ H n)
puts_more f g h o G H a b = record {
  gives = λ n p e. elim (b.gives n p e) [
    | inl k ↦ elim (a.gives n p k) [ inl j ↦ inl j | inr (same, j) ↦ inr (same, inl j) ]
    | inr (same, j) ↦ inr (same, inr j)
  ];
  kept = λ n k. b.kept n (a.kept n k);
  given = λ n k. elim k [ inl j ↦ b.kept n (a.given n j) | inr j ↦ b.given n j ];
}

-- one that is inserted
pub puts_one : (m n : BTreeMap Name Origin) (k : Name) (o : Origin) → tree.Updates name_cmp m n k (Some o) → Puts (origin_in m) (origin_in n) o (λ x. x ≡ k)
puts_one m n k o updates = record { gives = λ x p e. gives x p (is_at (name_cmp k) x) refl (sym (updates.0 x) ∙ e); kept = λ x h. kept x (is_at (name_cmp k) x) refl h; given = given }
  where
    gives : (x : Name) (p : Origin) (b : Bool) → is_at (name_cmp k) x ≡ b → cond (is_at (name_cmp k) x) (Some o) (origin_in m x) ≡ Some p → (origin_in m x ≡ Some p) ⊎ ((p ≡ o) × (x ≡ k))
    gives x p true e h =
        let is : Some o ≡ Some p = sym (ap (λ (b : Bool). cond b (Some o) (origin_in m x)) e) ∙ h in
        let same : p ≡ o = cc in
        inr (same, sym (is_at-exact name_order name_cmp-same k x e))
    gives x p false e h = inl (sym (ap (λ (b : Bool). cond b (Some o) (origin_in m x)) e) ∙ h)

    kept : (x : Name) (b : Bool) → is_at (name_cmp k) x ≡ b → IsSome (origin_in m x) → IsSome (origin_in n x)
    kept x true e h = is_some_at (origin_in n x) o (updates.0 x ∙ ap (λ (b : Bool). cond b (Some o) (origin_in m x)) e)
    kept x false e h =
        let (p, found) = some_of (origin_in m x) h in
        is_some_at (origin_in n x) p (updates.0 x ∙ ap (λ (b : Bool). cond b (Some o) (origin_in m x)) e ∙ found)

    given : (x : Name) → x ≡ k → IsSome (origin_in n x)
    given x e = is_some_at (origin_in n x) o (updates.0 x ∙ ap (λ (b : Bool). cond b (Some o) (origin_in m x)) (ap (is_at (name_cmp k)) e ∙ is_at-same name_order name_cmp-same k))
