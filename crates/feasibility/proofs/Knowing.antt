-- The patterns after the codes of a family are known by groups.
use Rattle.std.proofs.Common.{◌≡◌, ℕ, zero, suc, ◌+◌, ◌<◌, ◌≤◌, ◌⊎◌, inl, inr, Option, Some, None, List, [], ◌∷◌, ◌++◌, drop, get_or, length, length-append, slice_get, refl, sym, ◌∙◌, ap, subst, arith}
use Rattle.std.proofs.lemmas.Option.{slice_get_within}
use Rattle.rng_model.specs.Codes.{IsInRange}
use Rattle.rng_model.specs.Atoms.{Literals}
use Rattle.rng_model.specs.Patterns.{Pattern, Schema}
use Rattle.rng_model.specs.Universe.{Lists}
use Rattle.rng_model.specs.Alike.{AreAlikeCodes, AreAlikeGroups, AreNumbered, Groups, group_count}
use Rattle.rng_model.specs.States.{State, IsAllowed, Place, step}
use Rattle.table_laws.proofs.AlikeLaw.{alike_reached}
use Rattle.pattern_intern.specs.Stored.{Stored, Extends}
use Rattle.pattern_intern.specs.declared.id.PatternId.{PatternId}
use Rattle.transitions.proofs.Lists.{slice_get-push}
use Rattle.feasibility.specs.declared.explorer.Explorer.{Explorer}
use Rattle.feasibility.specs.declared.family.Family.{Family}
use Rattle.feasibility.specs.declared.family.Family.TheVariants.{Texts, Attribute, Openings}
use Rattle.feasibility.specs.Exploring.{Finds, IsExploring, IsKnown, IsPattern, at, found, groups_in, groups_of, names, pattern_at, pool, schema}
use Rattle.feasibility.specs.Families.{HasName, family_code, family_groups, family_length}
use Rattle.feasibility.proofs.Finding.{finds_names}

pub some_at : {X : Type 0} (xs : List X) (i : ℕ) → i < length xs → (x : X) × (slice_get xs i ≡ Some x)
some_at [] i l = absurd (omega arith)
some_at (x ∷ xs) zero l = (x, refl)
some_at (x ∷ xs) (suc i) l = some_at xs i (omega arith)

drop_next : {X : Type 0} (xs : List X) (i : ℕ) (x : X) → slice_get xs i ≡ Some x → drop i xs ≡ x ∷ drop (suc i) xs
drop_next [] i x h = absurd (cc)
drop_next (y ∷ xs) zero x h = (let e : y ≡ x = cc in ap (λ z. z ∷ xs) e)
drop_next (y ∷ xs) (suc i) x h = drop_next xs i x h

pub drop_at : {X : Type 0} (xs : List X) (i : ℕ) (x : X) → slice_get xs i ≡ Some x → drop i xs ≡ x ∷ drop (i + 1) xs
drop_at xs i x h = drop_next xs i x h ∙ (let e : suc i ≡ i + 1 = omega arith in ap (λ k. x ∷ drop k xs) e)

pub at_get : {X : Type 0} (xs : List X) (i : ℕ) (d x : X) → i < length xs → x ≡ get_or xs i d → slice_get xs i ≡ Some x
at_get [] i d x l e = absurd (omega arith)
at_get (y ∷ xs) zero d x l e = ap Some (sym e)
at_get (y ∷ xs) (suc i) d x l e = at_get xs i d x (omega arith) e

-- a code in range, and one of the same group: they are alike
in_range : (u : Lists) (f : Family) (p : ℕ) → HasName u f → p < family_length u f → IsInRange u (family_code f p)
in_range u Texts p n l = l
in_range u (Attribute m) p n l = (n, l)
in_range u Openings p n l = l

pub groups_length : (g : Schema) (l : Literals) (u : Lists) (x : Groups) → AreAlikeGroups g l u x → (f : Family) → length (family_groups x f) ≡ family_length u f
groups_length g l u x a Texts = a.atoms.same_length
groups_length g l u x a (Attribute m) = a.atoms.same_length
groups_length g l u x a Openings = a.elements.same_length

pub position_within : (e : Explorer) → IsExploring e → (f : Family) (p : ℕ) → p < length (groups_in e f) → p < family_length (names e) f
position_within e x f p l = (let k = groups_length (schema e) x.literals (names e) (groups_of e) (x.alike x.literals x.are_literals) f in omega (arith, k, l))

pub code_in_range : (e : Explorer) → IsExploring e → (f : Family) (p : ℕ) → HasName (names e) f → p < length (groups_in e f) → IsInRange (names e) (family_code f p)
code_in_range e x f p n l =
    let k = groups_length (schema e) x.literals (names e) (groups_of e) (x.alike x.literals x.are_literals) f in
    in_range (names e) f p n (subst (λ m. p < m) k l)

alike_family : (g : Schema) (l : Literals) (u : Lists) (x : Groups) → AreAlikeGroups g l u x → (f : Family) (p q : ℕ) → HasName u f → p < family_length u f → q < family_length u f →
    slice_get (family_groups x f) p ≡ slice_get (family_groups x f) q → AreAlikeCodes g l u (family_code f p) (family_code f q)
alike_family g l u x a Texts p q n i j e =
    let s = some_at u.atoms p i in let t = some_at u.atoms q j in (s.0, t.0, s.1, t.1, (a.atoms.each p q s.0 t.0 s.1 t.1).0 e)
alike_family g l u x a (Attribute m) p q n i j e =
    let s = some_at u.atoms p i in
    let t = some_at u.atoms q j in
    let k = some_at u.attributes m n in
    ((k.0, k.0, k.1, k.1, λ c h. refl), (s.0, t.0, s.1, t.1, (a.atoms.each p q s.0 t.0 s.1 t.1).0 e))
alike_family g l u x a Openings p q n i j e =
    let s = some_at u.elements p i in let t = some_at u.elements q j in (s.0, t.0, s.1, t.1, (a.elements.each p q s.0 t.0 s.1 t.1).0 e)

-- a family is allowed as a whole
pub allowed_all : (pl : Place) (f : Family) (p q : ℕ) → IsAllowed pl (family_code f p) → IsAllowed pl (family_code f q)
allowed_all (Place.Tag k) (Attribute m) p q h = h
allowed_all Place.Fresh Texts p q h = h
allowed_all Place.Fresh Openings p q h = h
allowed_all Place.AfterText Openings p q h = h
allowed_all Place.AfterElement Texts p q h = h
allowed_all Place.AfterElement Openings p q h = h
allowed_all (Place.Tag k) Texts p q h = absurd h
allowed_all (Place.Tag k) Openings p q h = absurd h
allowed_all Place.Fresh (Attribute m) p q h = absurd h
allowed_all Place.AfterText Texts p q h = absurd h
allowed_all Place.AfterText (Attribute m) p q h = absurd h
allowed_all Place.AfterElement (Attribute m) p q h = absurd h

-- the patterns after the codes of one group are one
same_pattern : (e : Explorer) (id : ℕ) (f : Family) (p q : ℕ) → IsExploring e → id < length (found e) → HasName (names e) f → IsAllowed (at e id).place (family_code f p) →
    p < length (groups_in e f) → q < length (groups_in e f) → slice_get (groups_in e f) p ≡ slice_get (groups_in e f) q → pattern_at e id f q ≡ pattern_at e id f p
same_pattern e id f p q x w n a i j h =
    let al = x.alike x.literals x.are_literals in
    let k = groups_length (schema e) x.literals (names e) (groups_of e) al f in
    ap (λ (s : State). s.pattern)
    (alike_reached (schema e) x.literals (names e) x.are_literals e.level (at e id) (family_code f p) (family_code f q) (x.reached id w)
    (alike_family (schema e) x.literals (names e) (groups_of e) al f p q n (subst (λ m. p < m) k i) (subst (λ m. q < m) k j) h) a (allowed_all (at e id).place f p q a))

pub pattern_kept : (s t : Stored) (p : Pattern) (r : Option PatternId) → Extends s t → IsPattern s p r → IsPattern t p r
pattern_kept s t p None x h = h
pattern_kept s t p (Some r) x h = let l = h.0 in let m = x.longer in (omega (arith, l, m), x.kept r.0 l ∙ h.1, h.2)

pub pattern_found : (e f : Explorer) (id : ℕ) (family : Family) (q : ℕ) → Finds e f → id < length (found e) → pattern_at f id family q ≡ pattern_at e id family q
pattern_found e f id family q x w = (let a = x.schema in let b = finds_names e f x in let c = x.states id w in (λ i. (step (a i) (b i) (c i) (family_code family q)).pattern))

-- what is known stays so
pub known_finds : (e f : Explorer) (id : ℕ) (family : Family) (p : ℕ) (known : List (Option PatternId)) → Finds e f → id < length (found e) → IsKnown e id family p known → IsKnown f id family p known
known_finds e f id family p known x w h = record {
  numbered = subst (λ y. AreNumbered (length known) (drop p (family_groups y family))) (sym x.groups) h.numbered;
  few = subst (λ y. length known ≤ group_count (family_groups y family)) (sym x.groups) h.few;
  seen = λ q group l i. h.seen q group l (subst (λ y. slice_get (family_groups y family) q ≡ Some group) x.groups i);
  each = λ q group r i j.
      subst (λ y. IsPattern (pool f) y r) (sym (pattern_found e f id family q x w))
      (pattern_kept (pool e) (pool f) (pattern_at e id family q) r x.pool (h.each q group r (subst (λ y. slice_get (family_groups y family) q ≡ Some group) x.groups i) j));
}

before_or_at : (q p : ℕ) → q < p + 1 → (q < p) ⊎ (p ≡ q)
before_or_at zero zero l = inr refl
before_or_at zero (suc p) l = inl (omega arith)
before_or_at (suc q) zero l = absurd (omega arith)
before_or_at (suc q) (suc p) l = go (before_or_at q p (omega arith))
  where
    go : (q < p) ⊎ (p ≡ q) → (suc q < suc p) ⊎ (suc p ≡ suc q)
    go (inl h) = inl (omega arith)
    go (inr e) = inr (ap suc e)

same_number : (ks : List ℕ) (p q k m : ℕ) → p ≡ q → slice_get ks p ≡ Some k → slice_get ks q ≡ Some m → k ≡ m
same_number ks p q k m e i j = cc

-- the group is known
pub known_before : (e : Explorer) (id : ℕ) (f : Family) (p group : ℕ) (known : List (Option PatternId)) → IsKnown e id f p known → slice_get (groups_in e f) p ≡ Some group → group < length known →
    IsKnown e id f (p + 1) known
known_before e id f p group known h i l = record {
  numbered = go (subst (AreNumbered (length known)) (drop_at (groups_in e f) p group i) h.numbered);
  few = h.few;
  seen = λ q k m j. seen q k j (before_or_at q p m);
  each = h.each;
}
  where
    seen : (q k : ℕ) → slice_get (groups_in e f) q ≡ Some k → (q < p) ⊎ (p ≡ q) → k < length known
    seen q k j (inl m) = h.seen q k m j
    seen q k j (inr m) = (let same : group ≡ k = same_number (groups_in e f) p q group k m i j in subst (λ y. y < length known) same l)

    go : AreNumbered (length known) (group ∷ drop (p + 1) (groups_in e f)) → AreNumbered (length known) (drop (p + 1) (groups_in e f))
    go (inl q) = q.1
    go (inr q) = let k = q.0 in absurd (omega (arith, k, l))

-- or it is new
pub known_next : (e : Explorer) (id : ℕ) (f : Family) (p group : ℕ) (known : List (Option PatternId)) (r : Option PatternId) → IsExploring e → id < length (found e) → HasName (names e) f →
    IsAllowed (at e id).place (family_code f p) → IsKnown e id f p known → slice_get (groups_in e f) p ≡ Some group → group < group_count (groups_in e f) → (group < length known → ⊥) →
    IsPattern (pool e) (pattern_at e id f p) r → IsKnown e id f (p + 1) (known ++ r ∷ [])
known_next e id f p group known r x w n a h i b l made = go (subst (AreNumbered (length known)) (drop_at (groups_in e f) p group i) h.numbered)
  where
    each : group ≡ length known → (q k : ℕ) (z : Option PatternId) → slice_get (groups_in e f) q ≡ Some k → (slice_get known k ≡ Some z) ⊎ ((k ≡ length known) × (r ≡ z)) → IsPattern (pool e) (pattern_at e id f q) z
    each s q k z j (inl m) = h.each q k z j m
    each s q k z j (inr m) =
        subst (IsPattern (pool e) (pattern_at e id f q)) m.1
        (subst (λ y. IsPattern (pool e) y r)
        (sym (same_pattern e id f p q x w n a (slice_get_within (groups_in e f) p group i) (slice_get_within (groups_in e f) q k j) (i ∙ ap Some (s ∙ sym m.0) ∙ sym j))) made)

    longer : length (known ++ r ∷ []) ≡ length known + 1
    longer = omega (arith, length-append known (r ∷ []))

    seen : group ≡ length known → (q k : ℕ) → slice_get (groups_in e f) q ≡ Some k → (q < p) ⊎ (p ≡ q) → k < length (known ++ r ∷ [])
    seen s q k j (inl m) = (let n = h.seen q k m j in omega (arith, longer, n))
    seen s q k j (inr m) = (let same : group ≡ k = same_number (groups_in e f) p q group k m i j in omega (arith, longer, same, s))

    go : AreNumbered (length known) (group ∷ drop (p + 1) (groups_in e f)) → IsKnown e id f (p + 1) (known ++ r ∷ [])
    go (inl q) = absurd (l q.0)
    go (inr q) = record {
      numbered = subst (λ m. AreNumbered m (drop (p + 1) (groups_in e f))) (sym longer) q.1;
      few = (let k = q.0 in omega (arith, longer, k, b));
      seen = λ y k m j. seen q.0 y k j (before_or_at y p m);
      each = λ y k z j m. each q.0 y k z j (slice_get-push known r z k m);
    }

-- the group of a position is known, or the next
pub group_next : (e : Explorer) (id : ℕ) (f : Family) (p group : ℕ) (known : List (Option PatternId)) → IsKnown e id f p known → slice_get (groups_in e f) p ≡ Some group → group ≤ length known
group_next e id f p group known h i = go (subst (AreNumbered (length known)) (drop_at (groups_in e f) p group i) h.numbered)
  where
    go : AreNumbered (length known) (group ∷ drop (p + 1) (groups_in e f)) → group ≤ length known
    go (inl q) = let k = q.0 in omega (arith, k)
    go (inr q) = let k = q.0 in omega (arith, k)

-- with the pattern that was made
pub known_made : (e f : Explorer) (id : ℕ) (family : Family) (p group : ℕ) (known : List (Option PatternId)) (r : Option PatternId) → Finds e f → IsExploring f → id < length (found e) → HasName (names e) family →
    IsAllowed (at e id).place (family_code family p) → IsKnown e id family p known → slice_get (groups_in e family) p ≡ Some group → group < group_count (groups_in e family) → (group < length known → ⊥) →
    IsPattern (pool f) (pattern_at e id family p) r → IsKnown f id family (p + 1) (known ++ r ∷ [])
known_made e f id family p group known r x y w n a h i b l made =
    known_next f id family p group known r y (let m = x.longer in omega (arith, w, m)) (subst (λ u. HasName u family) (sym (finds_names e f x)) n)
    (subst (λ (s : State). IsAllowed s.place (family_code family p)) (sym (x.states id w)) a) (known_finds e f id family p known x w h)
    (subst (λ z. slice_get (family_groups z family) p ≡ Some group) (sym x.groups) i) (subst (λ z. group < group_count (family_groups z family)) (sym x.groups) b) l
    (subst (λ z. IsPattern (pool f) z r) (sym (pattern_found e f id family p x w)) made)
