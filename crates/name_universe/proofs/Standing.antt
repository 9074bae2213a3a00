-- What stands for a name.
use Rattle.std.proofs.Common.{◌≡◌, ℕ, zero, suc, ◌<◌, inl, inr, List, [], ◌∷◌, length, refl, sym, ◌∙◌, ap, subst, arith, codes, Contains, Some, None, Option, IfNone, slice_get, get_or}
use Rattle.rng_model.specs.Names.{Name}
use Rattle.rng_model.specs.Texts.{Text}
use Rattle.rng_model.specs.Classes.{Class}
use Rattle.rng_model.specs.Fresh.{IsFirstFree}
use Rattle.rng_model.specs.Universe.{IsElementClass, IsAttributeClass, IsMentioned, IsFreshSpace, NameStandsFor}
use Rattle.rng_model.specs.Patterns.{Schema}
use Rattle.universe_laws.proofs.Unique.{mentioned_space}
use Rattle.text_atoms.proofs.Members.{member_of_map, member_at}
use Rattle.name_universe.specs.declared.origin.Origin.{Origin}
use Rattle.name_universe.specs.declared.origin.Origin.TheVariants.{Mentioned, FreshLocal, FreshSpace}
use Rattle.name_universe.specs.Tables.{NameTable, IsTable, IsTableOf, IsStandIn, StandsAt, HasOrigin}

pub below_length : {X : Type 0} (xs : List X) (k : ℕ) (x : X) → slice_get xs k ≡ Some x → k < length xs
below_length [] k x e = absurd (cc)
below_length (y ∷ xs) zero x e = omega arith
below_length (y ∷ xs) (suc k) x e = let h = below_length xs k x e in omega arith

module _ (C : Class → Type 0) (fresh : ℕ) (t : NameTable) (of : IsTableOf C fresh t) where
  -- a name whose origin is another isn't mentioned
  pub not_mentioned : (i : ℕ) (n : Name) (o : Origin) → slice_get t.names i ≡ Some n → slice_get t.origins i ≡ Some o → (o ≡ Mentioned → ⊥) → IsMentioned C n → ⊥
  not_mentioned i n Mentioned e h other m = other refl
  not_mentioned i n FreshLocal e h other m = let (inside, a) = of.origins i n FreshLocal e h in a.free m
  not_mentioned i n FreshSpace e h other m = let (a, b) = of.origins i n FreshSpace e h in a.free (mentioned_space C n m)

  pub not_listed : (n : Name) → (Contains t.names n → ⊥) → IsMentioned C n → ⊥
  not_listed n none m = none ((of.are.each n).1 (inl m))

  -- a mentioned name stands for itself
  pub mentioned_stands : (i : ℕ) (n : Name) → slice_get t.names i ≡ Some n → slice_get t.origins i ≡ Some Mentioned → StandsAt C t.names n i
  mentioned_stands i n e h = record { name = n; at = e; stands = inl (of.origins i n Mentioned e h, refl) }

  other_stands : (n m : Name) → (IsMentioned C n → ⊥) → IsStandIn t n m → NameStandsFor C n m
  other_stands n m not (inl h) =
      let (e, first) = of.firsts n.ns m h in
      inr (inl (
        not,
        (of.spaces n.ns).1 (member_of_map (λ (f : Text × Name). f.0) t.firsts (n.ns, m) h),
        e,
        subst (λ (u : Text). IsFirstFree (λ l. IsMentioned C (record { ns = u; local = l })) (codes "x") m.local) (sym e) first,
      ))
  other_stands n m not (inr (none, same)) =
      let (space, local) = of.foreign in
      inr (inr (λ k. none ((of.spaces n.ns).0 k), subst (λ (x : Name). IsFreshSpace C x.ns) (sym same) space, ap (λ (x : Name). x.local) same ∙ local))

  pub stand_in_stands : (i : ℕ) (n m : Name) → slice_get t.names i ≡ Some m → (IsMentioned C n → ⊥) → IsStandIn t n m → StandsAt C t.names n i
  stand_in_stands i n m e not h = record { name = m; at = e; stands = other_stands n m not h }

entry_is : {X : Type 0} (xs : List X) (i : ℕ) (v w : X) → slice_get xs i ≡ Some v → w ≡ get_or xs i w → v ≡ w
entry_is [] i v w e h = absurd (cc)
entry_is (x ∷ xs) zero v w e h = let f : x ≡ v = cc in sym f ∙ sym h
entry_is (x ∷ xs) (suc i) v w e h = entry_is xs i v w e h

-- the entry of a namespace
pub entry_stands : (t : NameTable) → IsTable t → (firsts : List (Text × Name)) → firsts ≡ t.firsts → (i : ℕ) (u v : Text) → v ≡ u → (w : Text × Name) →
    ((m : Name) × (slice_get firsts i ≡ Some (v, m))) → w ≡ get_or t.firsts i w → Contains t.names w.1 × Contains t.firsts (u, w.1)
entry_stands t is firsts same i u v ns w (m, at) h =
    let there : slice_get t.firsts i ≡ Some (v, m) = ap (λ (fs : List (Text × Name)). slice_get fs i) (sym same) ∙ at in
    let e : (v, m) ≡ w = entry_is t.firsts i (v, m) w there h in
    let inside : Contains t.firsts (v, m) = member_at t.firsts i (v, m) there in
    let name : m ≡ w.1 = ap (λ (p : Text × Name). p.1) e in
    let other : Contains t.firsts (u, w.1) = subst (Contains t.firsts) (λ j. (ns j, name j)) inside in
    (is.listed u w.1 other, other)

-- an origin that isn't Mentioned
abbrev pub HasOther : NameTable → ℕ → Type 0
HasOther t i = (o : Origin) × (slice_get t.origins i ≡ Some o) × (o ≡ Mentioned → ⊥)

pub no_element : (t : NameTable) (r : Option ℕ) (i : ℕ) (n : Name) → slice_get t.names i ≡ Some n → IfNone r (HasOther t i) →
    IfNone r ((g : Schema) (fresh : ℕ) → IsTableOf (IsElementClass g) fresh t → IsMentioned (IsElementClass g) n → ⊥)
no_element t None i n e (o, h, other) = λ g fresh of m. not_mentioned (IsElementClass g) fresh t of i n o e h other m
no_element t (Some x) i n e h = tt

pub no_attribute : (t : NameTable) (r : Option ℕ) (i : ℕ) (n : Name) → slice_get t.names i ≡ Some n → IfNone r (HasOther t i) →
    IfNone r ((g : Schema) (fresh : ℕ) → IsTableOf (IsAttributeClass g) fresh t → IsMentioned (IsAttributeClass g) n → ⊥)
no_attribute t None i n e (o, h, other) = λ g fresh of m. not_mentioned (IsAttributeClass g) fresh t of i n o e h other m
no_attribute t (Some x) i n e h = tt
